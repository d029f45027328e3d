-- The number fields.
use Rattle.std.specs.Prelude.{◌≡◌, ℕ, ◌+◌, ◌-◌, ◌*◌, ◌<◌, Bool, true, not, ◌&&◌, ◌||◌, List, [], ◌∷◌, length, decimal, ◌==◌, nat_le, slice_index}
use Rattle.std.specs.Str.{all_ascii_digits}

-- the number that digits write after those of n
abbrev pub value_after : ℕ → List ℕ → ℕ
value_after n [] = n
value_after n (d ∷ ds) = value_after (n * 10 + (d - 48)) ds

-- the number that digits write
abbrev pub value : List ℕ → ℕ
value text = value_after 0 text

-- The test of a number field: one to three digits, no 0 in front of another digit, and a value up to 255.
abbrev pub is_number : List ℕ → Bool
is_number text =
    nat_le 1 (length text) && (nat_le (length text) 3 && ((length text == 1 || not (slice_index text 0 == 48)) && (all_ascii_digits text && nat_le (value text) 255)))

-- The texts that pass are exactly the decimal texts of 0 to 255, one for each number, which is then the value.
pub record DecimalTexts : Type 0 where
  pub passes : (n : ℕ) → n < 256 → is_number (decimal n) ≡ true
  pub value_of : (n : ℕ) → n < 256 → value (decimal n) ≡ n
  pub small : (text : List ℕ) → is_number text ≡ true → value text < 256
  pub only : (text : List ℕ) → is_number text ≡ true → text ≡ decimal (value text)
