-- The listing, by evaluation.
use Rattle.std.proofs.Common.{refl}
use Rattle.semantics.specs.Listing.{AsListed}

pub as_listed : AsListed
as_listed = refl
