-- A number field, as the library's `parse` tells it.
use Rattle.std.proofs.Common.{◌≡◌, ℕ, ◌^◌, ◌<◌, ◌≤◌, true, cond, List, length, get_or, decimal, Some, None, Ok, Err, Option, Result, sym, ap, ◌∙◌, subst, ⊎_elim, arith, rules}
use Rattle.std.specs.Result.{OkIff, result_ok}
use Rattle.std.specs.Str.{all_ascii_digits, IsUtf8}
use Rattle.std.proofs.lemmas.Bool.{cases_Bool, cond-true, cond-false}
use Rattle.std.proofs.lemmas.Bool.Decides.{nat_tests}
use Rattle.std.proofs.lemmas.Fmt.{decimal-digits_value, length-decimal-le, IsAscii-decimal}
use Rattle.std.proofs.lemmas.Str.{IsUtf8-from_ascii}
use Rattle.std.proofs.lemmas.Str.Parse.{IsNumeralModel, numerals_by_fold}
use Rattle.line.specs.Numbers.{is_number, value, value_after}

-- what a field tells: its number where the test says yes
abbrev pub Told : List ℕ → Option ℕ → Type 0
Told text r = r ≡ cond (is_number text) (Some (value text)) None

pub own : IsNumeralModel (λ ds. all_ascii_digits ds ≡ true) value
own = numerals_by_fold _ (search rules) value_after (search rules)

-- digits with no 0 in front are the decimal text of their value
pub decimal_text : (text : List ℕ) → all_ascii_digits text ≡ true → 0 < length text → (get_or text 0 0 ≡ 48 → length text ≡ 1) → value text < 256 → decimal (value text) ≡ text
decimal_text text d l z v = decimal-digits_value own text d l z (omega (arith, v))

-- what a field needs to pass
pub passed : (text : List ℕ) → all_ascii_digits text ≡ true → 0 < length text → (get_or text 0 0 ≡ 48 → length text ≡ 1) → value text < 256 → is_number text ≡ true
passed text d l z v =
    let few : length (decimal (value text)) ≤ 3 = length-decimal-le 3 (value text) (omega arith) (omega (arith, v)) (omega (arith, v)) in
    let short : length text ≤ 3 = subst (λ t. length t ≤ 3) (decimal_text text d l z v) few in
    grind (arith, nat_tests, z, short)

-- what passes
pub is_text : (text : List ℕ) → is_number text ≡ true → decimal (value text) ≡ text
is_text text e = decimal_text text (grind (arith, nat_tests)) (grind (arith, nat_tests)) (λ z. grind (arith, nat_tests)) (grind (arith, nat_tests))

pub small : (text : List ℕ) → is_number text ≡ true → value text < 256
small text e = let h : value text ≤ 255 = grind (arith, nat_tests) in omega arith

-- the test fails
no : (text : List ℕ) → (is_number text ≡ true → ⊥) → Told text None
no text h = ⊎_elim (λ e. absurd (h e)) (λ e. sym (cond-false _ _ _ e)) (cases_Bool (is_number text))

pub no_text : (text : List ℕ) → (IsUtf8 text → ⊥) → Told text None
no_text text h = no text (λ e. h (IsUtf8-from_ascii text (subst (λ t. (i : ℕ) → get_or t i 0 < 128) (is_text text e) (IsAscii-decimal (value text) (let v = small text e in omega arith)))))

pub from_parse : {E : Type 0} (text : List ℕ) (r : Result ℕ E) (o : Option ℕ) → OkIff r ((all_ascii_digits text ≡ true) × (0 < length text) × (value text < 2 ^ 8)) (value text)
    → (get_or text 0 0 ≡ 48 → length text ≤ 1) → o ≡ result_ok r → Told text o
from_parse text (Ok x) o h z e =
    let is : is_number text ≡ true = passed text h.0.0 h.0.1 (λ y. omega (arith, z y, h.0.1)) h.0.2 in
    e ∙ ap Some h.1 ∙ sym (cond-true _ _ _ is)
from_parse text (Err x) o h z e = e ∙ no text (λ t. h (grind (arith, nat_tests), grind (arith, nat_tests), grind (arith, nat_tests)))
