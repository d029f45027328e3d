use Rattle.semantics.proofs.Table.{lowest_cause}
use Rattle.semantics.proofs.laws.lowest_cause.Goals as goal

pub returns : goal.returns
returns c = lowest_cause
