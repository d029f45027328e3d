-- Which bytes a line may hold.
use Rattle.std.specs.Prelude.{ℕ, Bool, not, ◌&&◌, List, Option, ◌==◌, nat_le, position}

-- a byte from 0x20 to 0x7E that is no double quote mark
abbrev pub plain : ℕ → Bool
plain b = nat_le 32 b && (nat_le b 126 && not (b == 34))

-- the place of the first byte that is not plain
abbrev pub bad_byte : List ℕ → Option ℕ
bad_byte line = position (λ b. not (plain b)) line
