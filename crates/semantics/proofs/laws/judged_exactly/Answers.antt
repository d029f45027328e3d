use Rattle.semantics.proofs.Exact.{judged_exactly}
use Rattle.semantics.proofs.laws.judged_exactly.Goals as goal

pub returns : goal.returns
returns c = judged_exactly
