use Rattle.std.proofs.Common.{arith}
use Rattle.methods.specs.Meaning.{method}
use Rattle.order.specs.Puts.{nothing}
use Rattle.plan.specs.Meaning.{given_steps, plan}
use Rattle.decomposing.proofs.Decides.{revises}
use Rattle.decomposing.proofs.exchange.Exchange.revise.Goals as goal

pub returns : goal.returns
returns c =
    let e = c.args.self.now in
    revises c.args.numbers (plan nothing e.target.now) e.leaving (method e.method.now) (given_steps c.in_ok-steps_after.field-0) c.in_ok-links_after.field-0
    (omega (arith, c.numbers.ensures.end)) c.in_ok-steps_after.ensures c.in_ok-links_after.ensures
