-- The smallest transitive relation that holds given pairs, as a set of pairs and as it is computed.
use Rattle.std.specs.Prelude.{◌≡◌, ℕ, Bool, true, false, ◌||◌, ◌⊎◌, List, [], ◌∷◌, Some, None, Option, ◌==◌}
use Rattle.semantics.specs.Orders.{put, Relation}

-- a set of pairs of step numbers, without a limit
abbrev pub Pairs : Type 1
Pairs = ℕ → ℕ → Type 0

-- the smallest transitive relation that holds the pairs of P
pub data Chained (P : ℕ → ℕ → Type 0) : ℕ → ℕ → Type 0 where
  pair : {a b : ℕ} → P a b → Chained P a b
  chain : {a b c : ℕ} → Chained P a b → Chained P b c → Chained P a c

-- the pairs of P, and the pair (a, b)
abbrev pub And : Pairs → ℕ → ℕ → Pairs
And P a b x y = P x y ⊎ ((x ≡ a) × (y ≡ b))

-- the pair stands in the list
abbrev pub Listed : ℕ → ℕ → List (ℕ × ℕ) → Type 0
Listed x y [] = ⊥
Listed x y (ab ∷ abs) = ((x ≡ ab.0) × (y ≡ ab.1)) ⊎ Listed x y abs

-- a put, refused where the test says that a step would be before itself
abbrev pub try_put : Relation → ℕ → ℕ → Bool → Option Relation
try_put R a b true = None
try_put R a b false = Some (put R a b)

-- pairs put one by one, until one is refused
abbrev pub try_all : Option Relation → List (ℕ × ℕ) → Option Relation
try_all None ps = None
try_all (Some R) [] = Some R
try_all (Some R) (ab ∷ abs) = try_all (try_put R ab.0 ab.1 (ab.0 == ab.1 || R ab.1 ab.0)) abs

-- pairs put one by one, whatever they close
abbrev pub put_all : Relation → List (ℕ × ℕ) → Relation
put_all R [] = R
put_all R (ab ∷ abs) = put_all (put R ab.0 ab.1) abs
