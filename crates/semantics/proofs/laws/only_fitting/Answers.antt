use Rattle.semantics.proofs.Table.{only_fitting}
use Rattle.semantics.proofs.laws.only_fitting.Goals as goal

pub returns : goal.returns
returns c = only_fitting
