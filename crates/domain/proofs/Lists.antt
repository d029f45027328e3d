-- Lists of facts and of tasks.
use Rattle.std.proofs.Common.{◌≡◌, ℕ, zero, suc, ◌||◌, eqb, ltb, List, [], ◌∷◌, ◌++◌, map, length, set, is_some, Some, None, Option, refl, ap, arith}
use Rattle.std.specs.List.{slice_get}
use Rattle.std.specs.Option.{option_map}
use Rattle.semantics.specs.Tasks.{changed, Task, with_add, with_delete, with_need}
use Rattle.domain.specs.Roles.{tasks_with_fact, with_fact}
use Rattle.domain.specs.declared.role.Role.{Role}
use Rattle.domain.specs.declared.role.Role.TheVariants.{Add, Delete, Need}
use Rattle.semantics.specs.Facts.{among}

-- the facts of a list with one more
pub among_push : (f : ℕ) (gs : List ℕ) (g : ℕ) → among f (gs ++ (g ∷ [])) ≡ (among f gs || eqb f g)
among_push f [] g = grind arith
among_push f (h ∷ gs) g = let ih = among_push f gs g in grind arith

-- a list has the places below its length
pub nth_there : {X : Type 0} (xs : List X) (i : ℕ) → is_some (slice_get xs i) ≡ ltb i (length xs)
nth_there [] i = grind arith
nth_there (x ∷ xs) zero = grind arith
nth_there (x ∷ xs) (suc i) = let ih = nth_there xs i in grind arith

module _ {X Y : Type 0} (h : X → Y) where
  pub nth_map : (xs : List X) (i : ℕ) → slice_get (map h xs) i ≡ option_map h (slice_get xs i)
  nth_map [] i = refl
  nth_map (x ∷ xs) zero = refl
  nth_map (x ∷ xs) (suc i) = nth_map xs i

  pub there_mapped : (o : Option X) → is_some (option_map h o) ≡ is_some o
  there_mapped None = refl
  there_mapped (Some x) = refl

pub mapped_twice : {X Y Z : Type 0} (g : X → Y) (h : Y → Z) (o : Option X) → option_map (λ x. h (g x)) o ≡ option_map h (option_map g o)
mapped_twice g h None = refl
mapped_twice g h (Some x) = refl

-- to put what the function makes of what stands at a place is to change it there
pub set_changed : {X : Type 0} (f : X → X) (xs : List X) (i : ℕ) (x : X) → Some x ≡ slice_get xs i → set xs i (f x) ≡ changed f i xs
set_changed f [] i x e = refl
set_changed f (z ∷ xs) zero x e = grind arith
set_changed f (z ∷ xs) (suc i) x e = ap (λ ys. z ∷ ys) (set_changed f xs i x e)

-- a fact more in a role of the task at one place
pub fact_changed : (role : Role) (t f : ℕ) (ts : List Task) (x : Task) → Some x ≡ slice_get ts t → set ts t (with_fact role f x) ≡ tasks_with_fact role t f ts
fact_changed Need t f ts x e = set_changed (with_need f) ts t x e
fact_changed Add t f ts x e = set_changed (with_add f) ts t x e
fact_changed Delete t f ts x e = set_changed (with_delete f) ts t x e
