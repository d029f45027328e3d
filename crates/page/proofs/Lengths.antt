-- How long numbers and rows are.
use Rattle.std.proofs.Common.{◌≡◌, ℕ, ◌+◌, ◌/◌, ◌%◌, ◌^◌, ◌<◌, ◌≤◌, length, decimal, ap, ◌∙◌, arith, length-append}
use Rattle.std.proofs.lemmas.List.{length_push}
use Rattle.std.proofs.lemmas.Fmt.{decimal_digit, decimal_step, length-decimal-le}
use Rattle.page.specs.Answers.{as_row}
use Rattle.page.specs.Rows.{number_text, row_text}
use Rattle.page.specs.declared.answer.Row.{Row}

pub length_digit : (n : ℕ) → n < 10 → length (decimal n) ≡ 1
length_digit n h = ap length (decimal_digit n h)

pub length_step : (n : ℕ) → 10 ≤ n → n < 2 ^ 64 → length (decimal n) ≡ length (decimal (n / 10)) + 1
length_step n h w = ap length (decimal_step n h w) ∙ length_push (decimal (n / 10)) (48 + n % 10)

pub length_two : (n : ℕ) → 10 ≤ n → n < 100 → length (decimal n) ≡ 2
length_two n h k = omega (arith, length_step n h (omega arith), length_digit (n / 10) (omega arith))

pub length_number : (n after : ℕ) → length (number_text n after) ≡ length (decimal n) + 1
length_number n after = length_push (decimal n) after

-- the length of a row, by its numbers
pub length_row : (r : Row) → length (row_text r) ≡ length (decimal r.code) + length (decimal r.a) + length (decimal r.b) + length (decimal r.c) + 5
length_row r = simp length-append (omega arith)

-- the same, by its texts
pub length_parts : (r : Row) → length (row_text r) ≡ length (number_text r.code 44) + length (number_text r.a 44) + length (number_text r.b 44) + length (number_text r.c 13) + 1
length_parts r = simp length-append (omega arith)

-- a code of one digit and any one number
pub number_short : (n x : ℕ) → n < 10 → x < 2 ^ 64 → length (row_text (as_row n x 0 0)) ≤ 28
number_short n x h k =
    omega (arith, length_row (as_row n x 0 0), length_digit n h, length_digit 0 (omega arith), length-decimal-le 20 x (omega arith) (omega arith) k)

-- numbers of three digits at most
pub bytes_short : (n x y z : ℕ) → n < 256 → x < 256 → y < 256 → z < 256 → length (row_text (as_row n x y z)) ≤ 28
bytes_short n x y z h i j k =
    let three : (m : ℕ) → m < 256 → length (decimal m) ≤ 3 = λ m l. length-decimal-le 3 m (omega arith) (omega arith) (omega arith) in
    omega (arith, length_row (as_row n x y z), three n h, three x i, three y j, three z k)
