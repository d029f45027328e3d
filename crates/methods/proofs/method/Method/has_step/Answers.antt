use Rattle.fixed.specs.Items.{items}
use Rattle.methods.proofs.Steps.{step_there}
use Rattle.methods.proofs.method.Method.has_step.Goals as goal

pub returns : goal.returns
returns c =
    let there = step_there (items c.args.self.now.steps) c.args.s in
    record { step = cc (c.get.ensures.item, c.is_some.ensures); small = λ h. c.get.ensures.bound (cc (c.is_some.ensures, h)) }
