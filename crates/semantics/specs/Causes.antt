-- Why a line is turned down: its causes are tried in rising number, and the first that applies answers.
use Rattle.std.specs.Prelude.{ℕ, suc, Bool, true, false, cond, List, [], ◌∷◌, Some, None, Option, ◌==◌}
use Rattle.page.specs.Answers.{as_row}
use Rattle.page.specs.declared.answer.Row.{Row}

-- A cause: its number, and the numbers a, b and c that it returns, where it applies.
abbrev pub Cause : Type 0
Cause = ℕ × Option (ℕ × ℕ × ℕ)

-- a cause that applies where the test says yes, and returns zeros
abbrev pub when : Bool → Option (ℕ × ℕ × ℕ)
when true = Some (0, 0, 0)
when false = None

-- the first field that names nothing: from field k on, whether each names something
abbrev pub nameless : ℕ → List Bool → Option (ℕ × ℕ × ℕ)
nameless k [] = None
nameless k (true ∷ bs) = nameless (suc k) bs
nameless k (false ∷ bs) = Some (k, 0, 0)

abbrev pub or_else : ℕ → Option (ℕ × ℕ × ℕ) → Row → Row
or_else n None rest = rest
or_else n (Some v) rest = as_row n v.0 v.1 v.2

-- the row by the first cause that applies, or code 0 and the number where none does
abbrev pub first_of : List Cause → ℕ → Row
first_of [] number = as_row 0 number 0 0
first_of (r ∷ rs) number = or_else r.0 r.1 (first_of rs number)

-- what a line leaves, by its row: an accepted one (code 0) the new, and a refused one the old
abbrev pub told : {X : Type 0} → Row → X → X → X
told w new old = cond (w.code == 0) new old

-- the first number of a list that passes a test
abbrev pub first_such : (ℕ → Bool) → List ℕ → Option ℕ
first_such test [] = None
first_such test (x ∷ xs) = cond (test x) (Some x) (first_such test xs)

abbrev pub also : {X : Type 0} → ℕ → Option X → Option (ℕ × X) → Option (ℕ × X)
also x None rest = rest
also x (Some y) rest = Some (x, y)

-- the first number of a list for which something is found, and that
abbrev pub first_found : {X : Type 0} → (ℕ → Option X) → List ℕ → Option (ℕ × X)
first_found find [] = None
first_found find (x ∷ xs) = also x (find x) (first_found find xs)

abbrev pub returned : Option ℕ → Option (ℕ × ℕ × ℕ)
returned None = None
returned (Some x) = Some (x, 0, 0)
