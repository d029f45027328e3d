-- Facts in a list.
use Rattle.std.specs.Prelude.{ℕ, cond, List, length, Some, None, Option, nat_le}

-- the label of one more fact, in a list of at most 32
abbrev pub label_of_next : List ℕ → Option ℕ
label_of_next fs = cond (nat_le 32 (length fs)) None (Some (length fs))
