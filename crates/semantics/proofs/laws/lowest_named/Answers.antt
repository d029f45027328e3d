use Rattle.semantics.proofs.Lowest.{lowest_named}
use Rattle.semantics.proofs.laws.lowest_named.Goals as goal

pub returns : goal.returns
returns c = lowest_named
