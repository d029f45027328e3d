use Rattle.semantics.proofs.Plans.{needs_are_met}
use Rattle.semantics.proofs.laws.needs_are_met.Goals as goal

pub returns : goal.returns
returns c = needs_are_met
