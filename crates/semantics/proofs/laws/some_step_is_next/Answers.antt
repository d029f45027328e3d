use Rattle.semantics.proofs.Plans.{some_step_is_next}
use Rattle.semantics.proofs.laws.some_step_is_next.Goals as goal

pub returns : goal.returns
returns c = some_step_is_next
