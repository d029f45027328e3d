-- The order that follows from a list of pairs.
use Rattle.std.specs.Prelude.{◌≡◌, ℕ, ◌<◌, false, cond, not, ◌&&◌, ◌||◌, List, [], ◌∷◌, ◌++◌, length, take, ◌==◌, slice_index_or}
use Rattle.order.specs.Puts.{can_put, nothing, Order}
use Rattle.semantics.specs.Orders.{put, Relation}
use Rattle.semantics.specs.Closures.{put_all}

-- what follows from the pairs
unfoldable pub closure : List (ℕ × ℕ) → Relation
closure ps = put_all nothing ps

-- whether the pair (x, y) stands in the list
unfoldable pub leads : List (ℕ × ℕ) → Relation
leads [] x y = false
leads (p ∷ ps) x y = (p.0 == x && p.1 == y) || leads ps x y

-- The pairs make an order between the numbers below n, and none followed from those before it.
pub record Stored (n : ℕ) (ps : List (ℕ × ℕ)) : Type 0 where
  pub order : Order n (closure ps)
  pub fresh : (j : ℕ) → j < length ps → closure (take j ps) (slice_index_or ps j (0, 0)).0 (slice_index_or ps j (0, 0)).1 ≡ false

-- a pair put where it is not refused
abbrev pub put_or_not : ℕ → Relation → ℕ → ℕ → Relation
put_or_not n R a b = cond (can_put n R a b) (put R a b) R

-- the pairs put one by one, without those that are refused
abbrev pub put_some : ℕ → Relation → List (ℕ × ℕ) → Relation
put_some n R [] = R
put_some n R (p ∷ ps) = put_some n (put_or_not n R p.0 p.1) ps

-- the pairs that do not contain a
abbrev pub others : ℕ → List (ℕ × ℕ) → List (ℕ × ℕ)
others a [] = []
others a (p ∷ ps) = cond (not (p.0 == a) && not (p.1 == a)) (p ∷ others a ps) (others a ps)

-- x with each number that a leads to
abbrev pub onward : ℕ → ℕ → List (ℕ × ℕ) → List (ℕ × ℕ)
onward a x [] = []
onward a x (p ∷ ps) = cond (p.0 == a) ((x, p.1) ∷ onward a x ps) (onward a x ps)

-- each number of ps that leads to a, with each number that a leads to in all
abbrev pub through : ℕ → List (ℕ × ℕ) → List (ℕ × ℕ) → List (ℕ × ℕ)
through a all [] = []
through a all (p ∷ ps) = cond (p.1 == a) (onward a p.0 all ++ through a all ps) (through a all ps)
