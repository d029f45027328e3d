use Rattle.std.proofs.Common.{refl}
use Rattle.fixed.specs.Items.{items}
use Rattle.domain.specs.Meaning.{tasks}
use Rattle.told_domain.proofs.Keeping.{held, task_line}
use Rattle.told_domain.proofs.told.Domain.append.Goals as goal

pub invariant_of-self : goal.invariant_of-self
invariant_of-self c =
    let self = c.args.self.now in
    let kept = task_line self.phase (tasks self.known) (tasks c.append.new.self) (items self.list) self.draft (c.in_ok-must_be_in.ensures.same refl) (held self) in
    record { fitting = kept.fitting; drafting = kept.drafting; unused = kept.unused; room = kept.room }
