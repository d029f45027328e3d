-- A number as a set of numbers: those of its bits that are set.
use Rattle.std.specs.Prelude.{ℕ, ◌/◌, ◌%◌, ◌^◌, Bool, ◌==◌}

-- whether the mask m has the number y
unfoldable pub bit : ℕ → ℕ → Bool
bit m y = m / 2 ^ y % 2 == 1
