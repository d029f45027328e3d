use Rattle.semantics.proofs.Decomposes.{decomposition}
use Rattle.semantics.proofs.laws.decomposition.Goals as goal

pub returns : goal.returns
returns c = decomposition
