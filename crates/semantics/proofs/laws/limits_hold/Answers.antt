use Rattle.semantics.proofs.Limits.{limits_hold}
use Rattle.semantics.proofs.laws.limits_hold.Goals as goal

pub returns : goal.returns
returns c = limits_hold
