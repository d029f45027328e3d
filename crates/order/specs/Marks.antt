-- Masks of step numbers, and a table of them as a relation.
use Rattle.std.specs.Prelude.{ℕ, ◌-◌, ◌^◌, cond, ◌&&◌, ◌||◌, List, ◌==◌, bit_and, bit_or, nat_lt, slice_index}
use Rattle.masks.specs.Bits.{bit}
use Rattle.semantics.specs.Orders.{Relation}

-- x is before y where both are below n and row x has y
abbrev pub marks : ℕ → List ℕ → Relation
marks n rows x y = (nat_lt x n && nat_lt y n) && bit (slice_index rows x) y

-- row x, joined with `after` where x is a or before a
abbrev pub grown : ℕ → ℕ → ℕ → ℕ → ℕ
grown a after x row = cond (x == a || bit row a) (bit_or row after) row

-- row x without a, and empty where x is a
abbrev pub pruned : ℕ → ℕ → ℕ → ℕ
pruned a x row = cond (x == a) 0 (bit_and row (2 ^ 64 - 1 - 2 ^ a))
