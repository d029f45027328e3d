-- Relations between step numbers, strict orders, and the orders that a plan permits.
use Rattle.std.specs.Prelude.{◌≡◌, ℕ, Bool, true, not, ◌&&◌, ◌||◌, ◌⊎◌, ◌↔◌, List, [], ◌∷◌, ◌==◌}

-- x stands in the list
abbrev pub In : ℕ → List ℕ → Type 0
In x [] = ⊥
In x (y ∷ ys) = (x ≡ y) ⊎ In x ys

-- no number stands twice
abbrev pub Once : List ℕ → Type 0
Once [] = Unit {0}
Once (x ∷ xs) = (In x xs → ⊥) × Once xs

-- x stands in the list, and y somewhere after it
abbrev pub Earlier : List ℕ → ℕ → ℕ → Type 0
Earlier [] x y = ⊥
Earlier (z ∷ zs) x y = ((x ≡ z) × In y zs) ⊎ Earlier zs x y

-- a relation between step numbers that answers yes or no for each pair
abbrev pub Relation : Type 0
Relation = ℕ → ℕ → Bool

-- R holds of a and b
abbrev pub Holds : Relation → ℕ → ℕ → Type 0
Holds R a b = R a b ≡ true

-- if a is before b and b before c, then a is before c
abbrev pub Transitive : Relation → Type 0
Transitive R = (a b c : ℕ) → Holds R a b → Holds R b c → Holds R a c

-- A strict partial order: no step is before itself, and before is transitive.
pub record Strict (R : Relation) : Type 0 where
  pub never_itself : (a : ℕ) → Holds R a a → ⊥
  pub passes_on : Transitive R

-- S is the smallest transitive relation that holds the pairs of R and (a, b).
pub record Smallest (R : Relation) (a b : ℕ) (S : Relation) : Type 0 where
  pub keeps : (x y : ℕ) → Holds R x y → Holds S x y
  pub has : Holds S a b
  pub passes_on : Transitive S
  pub no_more : (Q : Relation) → ((x y : ℕ) → Holds R x y → Holds Q x y) → Holds Q a b → Transitive Q → (x y : ℕ) → Holds S x y → Holds Q x y

-- the relation after the pair (a, b) is put, as it is computed
abbrev pub put : Relation → ℕ → ℕ → Relation
put R a b x y = R x y || ((x == a || R x a) && (b == y || R b y))

-- the relation without the pairs that contain s
abbrev pub dropped : Relation → ℕ → Relation
dropped R s x y = R x y && (not (x == s) && not (y == s))

-- A permitted order of some steps, a linear extension: each of them once, after every step that is before it.
pub record Permitted (steps : List ℕ) (Before : ℕ → ℕ → Type 0) (order : List ℕ) : Type 0 where
  pub each : (x : ℕ) → In x steps ↔ In x order
  pub once : Once order
  pub after : (x y : ℕ) → In x steps → In y steps → Before x y → Earlier order x y
