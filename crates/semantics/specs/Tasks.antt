-- Tasks: what each needs, adds and deletes.
use Rattle.std.specs.Prelude.{◌≡◌, ℕ, zero, suc, Bool, true, false, List, [], ◌∷◌, ◌++◌, Some, None, Option}
use Rattle.std.specs.List.{slice_get}

-- A task: whether it is primitive, and its lists of facts. A label is a place in a list, from 0; a fact may stand twice.
pub record Task : Type 0 where
  pub primitive : Bool
  pub needs : List ℕ
  pub adds : List ℕ
  pub deletes : List ℕ

-- a task without facts
abbrev pub bare : Bool → Task
bare primitive = record { primitive = primitive; needs = []; adds = []; deletes = [] }

-- a fact ends the needs, the adds or the deletes
abbrev pub with_need : ℕ → Task → Task
with_need f t = record { primitive = t.primitive; needs = t.needs ++ (f ∷ []); adds = t.adds; deletes = t.deletes }

abbrev pub with_add : ℕ → Task → Task
with_add f t = record { primitive = t.primitive; needs = t.needs; adds = t.adds ++ (f ∷ []); deletes = t.deletes }

abbrev pub with_delete : ℕ → Task → Task
with_delete f t = record { primitive = t.primitive; needs = t.needs; adds = t.adds; deletes = t.deletes ++ (f ∷ []) }

-- the list with what stands at one place changed
abbrev pub changed : {X : Type 0} → (X → X) → ℕ → List X → List X
changed f k [] = []
changed f zero (x ∷ xs) = f x ∷ xs
changed f (suc k) (x ∷ xs) = x ∷ changed f k xs

-- the lists of a task that may be none
abbrev pub needs_of : Option Task → List ℕ
needs_of None = []
needs_of (Some t) = t.needs

abbrev pub adds_of : Option Task → List ℕ
adds_of None = []
adds_of (Some t) = t.adds

abbrev pub deletes_of : Option Task → List ℕ
deletes_of None = []
deletes_of (Some t) = t.deletes

abbrev pub is_primitive : Option Task → Bool
is_primitive None = false
is_primitive (Some t) = t.primitive

-- f is the fact at label j of a list
abbrev pub Labelled : List ℕ → ℕ → ℕ → Type 0
Labelled fs j f = slice_get fs j ≡ Some f

-- the tasks of a domain as it opens: init (0) and goal (1), both primitive
abbrev pub first_tasks : List Task
first_tasks = bare true ∷ bare true ∷ []
