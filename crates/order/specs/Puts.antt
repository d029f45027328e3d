-- Which pairs a keeper takes, and many pairs put one by one.
use Rattle.std.specs.Prelude.{ℕ, ◌<◌, Bool, true, false, cond, not, ◌&&◌, List, [], ◌∷◌, ◌==◌, nat_lt}
use Rattle.semantics.specs.Orders.{Holds, put, Relation, Strict}

-- the relation of no pairs
abbrev pub nothing : Relation
nothing x y = false

-- Whether a keeper for n steps puts the pair (a, b) into R. It is refused exactly when a number is at or above n, a equals b,
-- or b is before a.
abbrev pub can_put : ℕ → Relation → ℕ → ℕ → Bool
can_put n R a b = (nat_lt a n && nat_lt b n) && (not (a == b) && not (R b a))

-- A strict order between the numbers below n.
pub record Order (n : ℕ) (R : Relation) : Type 0 where
  pub strict : Strict R
  pub within : (x y : ℕ) → Holds R x y → (x < n) × (y < n)

-- Pairs put one by one until one is refused: whether all were put, and the relation then.
abbrev pub put_each : ℕ → Relation → List (ℕ × ℕ) → Bool × Relation
put_each n R [] = (true, R)
put_each n R (ab ∷ abs) = cond (can_put n R ab.0 ab.1) (put_each n (put R ab.0 ab.1) abs) (false, R)

-- all numbers of the pairs are below n
abbrev pub Low : ℕ → List (ℕ × ℕ) → Type 0
Low n [] = Unit {0}
Low n (ab ∷ abs) = (ab.0 < n) × (ab.1 < n) × Low n abs
