use Rattle.semantics.proofs.Listing.{as_listed}
use Rattle.semantics.proofs.laws.as_listed.Goals as goal

pub returns : goal.returns
returns c = as_listed
