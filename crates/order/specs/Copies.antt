-- An order copied row by row.
use Rattle.std.specs.Prelude.{ℕ, ◌<◌}
use Rattle.semantics.specs.Orders.{Holds, Relation}

-- each pair of R is one of S
abbrev pub Within : Relation → Relation → Type 0
Within R S = (x y : ℕ) → Holds R x y → Holds S x y

-- T holds no more than R, what S holds, and each pair (a, y) of R with y below b
pub record RowCopied (R S : Relation) (a b : ℕ) (T : Relation) : Type 0 where
  pub within : Within T R
  pub keeps : Within S T
  pub row : (y : ℕ) → y < b → Holds R a y → Holds T a y
