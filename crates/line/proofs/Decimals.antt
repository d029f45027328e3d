-- The number fields are exactly the decimal texts of 0 to 255.
use Rattle.std.proofs.Common.{◌≡◌, ℕ, ◌<◌, true, List, length, get_or, decimal, sym, ap, ⊎_elim, arith}
use Rattle.std.specs.Str.{all_ascii_digits}
use Rattle.std.proofs.lemmas.Fmt.{digits_decimal, digits_value-decimal, decimal_nonempty, first_decimal, decimal_digit}
use Rattle.std.proofs.lemmas.Bool.{cases_lt}
use Rattle.line.specs.Numbers.{is_number, value, DecimalTexts}
use Rattle.line.proofs.Digits.{own, passed, is_text, small}

pub digits : (n : ℕ) → n < 256 → all_ascii_digits (decimal n) ≡ true
digits n h = digits_decimal own n (omega arith)

alone : (n : ℕ) → n < 256 → get_or (decimal n) 0 0 ≡ 48 → length (decimal n) ≡ 1
alone n h e = ⊎_elim (λ l. absurd (omega (arith, first_decimal n l (omega arith)))) (λ z. ap length (decimal_digit n (omega arith))) (cases_lt 0 n)

pub value_of : (n : ℕ) → n < 256 → value (decimal n) ≡ n
value_of n h = digits_value-decimal own n (omega arith)

pub passes : (n : ℕ) → n < 256 → is_number (decimal n) ≡ true
passes n h = let some = decimal_nonempty n (omega arith) in passed (decimal n) (digits n h) (omega arith) (alone n h) (omega (arith, value_of n h))

pub only : (text : List ℕ) → is_number text ≡ true → text ≡ decimal (value text)
only text e = sym (is_text text e)

pub decimal_texts : DecimalTexts
decimal_texts = record { passes = passes; value_of = value_of; small = small; only = only }
