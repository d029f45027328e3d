-- A page on which one text is written after another.
use Rattle.std.proofs.Common.{◌≡◌, ℕ, ◌+◌, ◌/◌, ◌%◌, ◌^◌, ◌<◌, ◌≤◌, List, [], ◌∷◌, ◌++◌, length, take, drop, set, decimal, sym, ap, ◌∙◌, append_assoc, add_assoc, add-one, arith, length-append, length-drop}
use Rattle.std.proofs.lemmas.List.{set_split, take_at, drop_at, drop-drop, length-take-le}
use Rattle.std.proofs.lemmas.Fmt.{decimal_digit, decimal_step}
use Rattle.page.specs.Rows.{number_text, row_text, written}
use Rattle.page.specs.declared.answer.Row.{Row}
use Rattle.page.proofs.Lengths.{length_digit, length_parts}

-- the page keeps its length
pub length_written : (p : List ℕ) (at : ℕ) (xs : List ℕ) → at + length xs ≤ length p → length (written p at xs) ≡ length p
length_written p at xs l =
    omega (arith, length-append (take at p) (xs ++ drop (at + length xs) p), length-append xs (drop (at + length xs) p), length-take-le at p (omega arith), length-drop (at + length xs) p)

-- a text, and another right after it
pub written_on : (p : List ℕ) (at : ℕ) (xs ys : List ℕ) → at + length xs ≤ length p → written (written p at xs) (at + length xs) ys ≡ written p at (xs ++ ys)
written_on p at xs ys l =
    let n = at + length xs in
    let m = length ys in
    let q = written p at xs in
    let two : q ≡ (take at p ++ xs) ++ drop n p = sym (append_assoc (take at p) xs (drop n p)) in
    let long : length (take at p ++ xs) ≡ n = length-append (take at p) xs ∙ ap (λ i. i + length xs) (length-take-le at p (omega arith)) in
    let front : take n q ≡ take at p ++ xs = ap (take n) two ∙ take_at (take at p ++ xs) (drop n p) n long in
    let back : drop (n + m) q ≡ drop (at + length (xs ++ ys)) p =
    sym (drop-drop m n q) ∙ ap (drop m) (ap (drop n) two ∙ drop_at (take at p ++ xs) (drop n p) n long) ∙ drop-drop m n p
    ∙ ap (λ i. drop i p) (add_assoc at (length xs) m ∙ ap (λ i. at + i) (sym (length-append xs ys))) in
    (λ i. front i ++ (ys ++ back i)) ∙ append_assoc (take at p) xs (ys ++ drop (at + length (xs ++ ys)) p)
    ∙ ap (λ t. take at p ++ t) (sym (append_assoc xs ys (drop (at + length (xs ++ ys)) p)))

-- one byte
written_byte : (p : List ℕ) (at b : ℕ) → at < length p → set p at b ≡ written p at (b ∷ [])
written_byte p at b l = rw add-one (set_split p at b l)

-- the same, of pages and places that have names of their own
pub then : (p : List ℕ) (at : ℕ) (xs q : List ℕ) (end : ℕ) (ys r : List ℕ) → at + length xs ≤ length p → q ≡ written p at xs → end ≡ at + length xs → r ≡ written q end ys → r ≡ written p at (xs ++ ys)
then p at xs q end ys r l h e k = k ∙ (λ i. written (h i) (e i) ys) ∙ written_on p at xs ys l

-- a text, and one byte after it
pub then_byte : (p : List ℕ) (at : ℕ) (xs q : List ℕ) (end b : ℕ) → at + length xs < length p → q ≡ written p at xs → end ≡ at + length xs → set q end b ≡ written p at (xs ++ (b ∷ []))
then_byte p at xs q end b l h e =
    let long = ap length h ∙ length_written p at xs (omega arith) in
    then p at xs q end (b ∷ []) _ (omega arith) h e (written_byte q end b (omega arith))

pub written_digit : (p : List ℕ) (at n : ℕ) → at < length p → n < 10 → set p at (48 + n) ≡ written p at (decimal n)
written_digit p at n l h = written_byte p at (48 + n) l ∙ ap (written p at) (sym (decimal_digit n h))

-- the last digit, after a tenth of the number
written_step : (p : List ℕ) (at n end : ℕ) (q : List ℕ) → at + length (decimal (n / 10)) < length p → 10 ≤ n → n < 2 ^ 64 → q ≡ written p at (decimal (n / 10)) → end ≡ at + length (decimal (n / 10)) → set q end (48 + n % 10) ≡ written p at (decimal n)
written_step p at n end q l h w k e = then_byte p at (decimal (n / 10)) q end (48 + n % 10) l k e ∙ ap (written p at) (sym (decimal_step n h w))

-- two digits
pub written_two : (p : List ℕ) (at n : ℕ) → at + 1 < length p → 10 ≤ n → n < 100 → set (set p at (48 + n / 10)) (at + 1) (48 + n % 10) ≡ written p at (decimal n)
written_two p at n l h k =
    let one = length_digit (n / 10) (omega arith) in
    written_step p at n (at + 1) (set p at (48 + n / 10)) (omega (arith, one)) h (omega arith) (written_digit p at (n / 10) (omega arith) (omega arith)) (omega (arith, one))

-- and the page between them is as long as before
pub length_tens : (p : List ℕ) (at n : ℕ) → at < length p → n < 100 → length (set p at (48 + n / 10)) ≡ length p
length_tens p at n l k =
    let one = length_digit (n / 10) (omega arith) in
    ap length (written_digit p at (n / 10) l (omega arith)) ∙ length_written p at (decimal (n / 10)) (omega (arith, one))

-- the four numbers of a row and its last byte, one after another
pub written_row : (p : List ℕ) (at : ℕ) (w : Row) (e₁ e₂ e₃ e₄ : ℕ) (q₁ q₂ q₃ q₄ : List ℕ) → at + length (row_text w) ≤ length p
    → q₁ ≡ written p at (number_text w.code 44) → e₁ ≡ at + length (number_text w.code 44)
    → q₂ ≡ written q₁ e₁ (number_text w.a 44) → e₂ ≡ e₁ + length (number_text w.a 44)
    → q₃ ≡ written q₂ e₂ (number_text w.b 44) → e₃ ≡ e₂ + length (number_text w.b 44)
    → q₄ ≡ written q₃ e₃ (number_text w.c 13) → e₄ ≡ e₃ + length (number_text w.c 13)
    → set q₄ e₄ 10 ≡ written p at (row_text w)
written_row p at w e₁ e₂ e₃ e₄ q₁ q₂ q₃ q₄ l h₁ k₁ h₂ k₂ h₃ k₃ h₄ k₄ =
    let long = length_parts w in
    let l₁ = ap length h₁ ∙ length_written p at (number_text w.code 44) (omega arith) in
    let l₂ = ap length h₂ ∙ length_written q₁ e₁ (number_text w.a 44) (omega arith) in
    let l₃ = ap length h₃ ∙ length_written q₂ e₂ (number_text w.b 44) (omega arith) in
    then p at _ q₁ e₁ _ _ (omega arith) h₁ k₁
    (then q₁ e₁ _ q₂ e₂ _ _ (omega arith) h₂ k₂
    (then q₂ e₂ _ q₃ e₃ _ _ (omega arith) h₃ k₃
    (then_byte q₃ e₃ _ q₄ e₄ 10 (omega arith) h₄ k₄)))
