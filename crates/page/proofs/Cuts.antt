-- The first line of a text, by the place where it ends.
use Rattle.std.proofs.Common.{◌≡◌, ℕ, zero, suc, ◌+◌, ◌-◌, ◌<◌, ◌≤◌, false, ◌&&◌, eqb, List, [], ◌∷◌, length, get_or, take, drop, Some, None, inl, inr, sym, refl, ap, ◌∙◌, arith, length-drop, cond, ◌++◌}
use Rattle.std.proofs.Math.Seq.{take-suc}
use Rattle.std.proofs.lemmas.List.{drop_all, take_all, get_or_at, take_at, length_push, length-take-le}
use Rattle.std.proofs.lemmas.Bool.{eq-eqb, ne_eqb, cases_eq, cond-true, cond-false, and_left, and_right, and_from}
use Rattle.page.specs.Lines.{Broken, on_first, cr_first, starts_lf, broken, first_line, NoFeed, without_cr}

-- a byte that is part of the first line
pub part : (b : ℕ) (bs : List ℕ) → (b ≡ 10 → ⊥) → (eqb b 13 && starts_lf bs) ≡ false → broken (b ∷ bs) ≡ on_first b (broken bs)
part b bs n m = cond-false _ _ _ (ne_eqb b 10 n) ∙ cond-false _ _ _ m

starts_not : (bs : List ℕ) → (get_or bs 0 0 ≡ 10 → ⊥) → starts_lf bs ≡ false
starts_not [] n = refl
starts_not (b ∷ bs) n = ne_eqb b 10 n

-- the first LF, with no CR before it
pub broken_lf : (text : List ℕ) (i : ℕ) → i < length text → get_or text i 0 ≡ 10 → NoFeed text i → ((k : ℕ) → suc k ≡ i → get_or text k 0 ≡ 13 → ⊥) → broken text ≡ (take i text, 10 ∷ []) ∷ broken (drop (suc i) text)
broken_lf [] i l e n m = absurd (omega arith)
broken_lf (b ∷ bs) zero l e n m = cond-true _ _ _ (eq-eqb b 10 e)
broken_lf (b ∷ bs) (suc zero) l e n m =
    part b bs (n 0 (omega arith)) (and_left _ _ (ne_eqb b 13 (m 0 refl))) ∙ ap (on_first b) (broken_lf bs zero (omega arith) e (λ k h. absurd (omega arith)) (λ k h. absurd (omega arith)))
broken_lf (b ∷ bs) (suc (suc i)) l e n m =
    part b bs (n 0 (omega arith)) (and_right _ _ (starts_not bs (n 1 (omega arith)))) ∙ ap (on_first b) (broken_lf bs (suc i) (omega arith) e (λ k h. n (suc k) (omega arith)) (λ k h. m (suc k) (ap suc h)))

-- the first LF, with a CR before it
pub broken_crlf : (text : List ℕ) (i : ℕ) → suc i < length text → get_or text i 0 ≡ 13 → get_or text (suc i) 0 ≡ 10 → NoFeed text (suc i) → broken text ≡ (take i text, 13 ∷ 10 ∷ []) ∷ broken (drop (suc (suc i)) text)
broken_crlf [] i l c e n = absurd (omega arith)
broken_crlf (b ∷ []) i l c e n = absurd (omega arith)
broken_crlf (b ∷ x ∷ bs) zero l c e n =
    cond-false _ _ _ (ne_eqb b 10 (n 0 (omega arith))) ∙ cond-true _ _ _ (and_from _ _ (eq-eqb b 13 c) (eq-eqb x 10 e)) ∙ ap cr_first (cond-true _ _ _ (eq-eqb x 10 e))
broken_crlf (b ∷ x ∷ bs) (suc i) l c e n =
    part b (x ∷ bs) (n 0 (omega arith)) (and_right _ _ (ne_eqb x 10 (n 1 (omega arith)))) ∙ ap (on_first b) (broken_crlf (x ∷ bs) i (omega arith) c e (λ k h. n (suc k) (omega arith)))

-- no LF at all
pub broken_last : (text : List ℕ) → 0 < length text → NoFeed text (length text) → broken text ≡ (text, []) ∷ []
broken_last [] l n = absurd (omega arith)
broken_last (b ∷ []) l n = part b [] (n 0 (omega arith)) (and_right _ _ refl)
broken_last (b ∷ x ∷ bs) l n =
    part b (x ∷ bs) (n 0 (omega arith)) (and_right _ _ (ne_eqb x 10 (n 1 (omega arith)))) ∙ ap (on_first b) (broken_last (x ∷ bs) (omega arith) (λ k h. n (suc k) (omega arith)))

-- the first line, from what the lines are and from the place after it
first_is : (at n : ℕ) (l e : List ℕ) (rest ps : List Broken) → ps ≡ (l, e) ∷ rest → n ≡ at + (length l + length e) → Some (l, n) ≡ first_line at ps
first_is at n l e rest ps h q = ap (λ m. Some (l, m)) q ∙ sym (ap (first_line at) h)

-- the line that `line_at` answers, in each of its cases
pub line_none : (text : List ℕ) (at : ℕ) → length text ≤ at → None ≡ first_line at (broken (drop at text))
line_none text at h = sym (ap (λ t. first_line at (broken t)) (drop_all at text h))

line_last : (at : ℕ) (bs : List ℕ) (end : ℕ) → 0 < length bs → end ≡ at + length bs → NoFeed bs (length bs) → Some (bs, end) ≡ first_line at (broken bs)
line_last at bs end h e n = first_is at end bs [] [] (broken bs) (broken_last bs h n) (omega arith)

-- a line that ends in this byte, without the CR at its end
without_last : (line : List ℕ) (b : ℕ) → without_cr (line ++ b ∷ []) ≡ cond (eqb b 13) line (line ++ b ∷ [])
without_last line b =
    let long : length (line ++ b ∷ []) - 1 ≡ length line = omega (arith, length_push line b) in
    rw (long, get_or_at line b [] 0 (length line) refl, take_at line (b ∷ []) (length line) refl)

line_fed : (at : ℕ) (bs : List ℕ) (i : ℕ) → i < length bs → get_or bs i 0 ≡ 10 → NoFeed bs i → Some (without_cr (take i bs), at + i + 1) ≡ first_line at (broken bs)
line_fed at bs zero h lf n = first_is at (at + 0 + 1) [] (10 ∷ []) _ (broken bs) (broken_lf bs zero h lf n (λ k e c. absurd (omega arith))) (omega arith)
line_fed at bs (suc j) h lf n =
    let size = length-take-le j bs (omega arith) in
    let cut = take-suc bs j 0 (omega arith) in
    rw (cut, without_last (take j bs) (get_or bs j 0)) (elim (cases_eq (get_or bs j 0) 13) [
      | inl e ↦ rw (cond-true _ _ _ (eq-eqb (get_or bs j 0) 13 e)) (first_is at (at + suc j + 1) (take j bs) (13 ∷ 10 ∷ []) _ (broken bs) (broken_crlf bs j h e lf n) (omega arith))
      | inr e ↦ rw (cond-false _ _ _ (ne_eqb (get_or bs j 0) 13 e), ← cut) (first_is at (at + suc j + 1) (take (suc j) bs) (10 ∷ []) _ (broken bs) (broken_lf bs (suc j) h lf n (λ k q c. let p : j ≡ k = omega arith in e (ap (λ m. get_or bs m 0) p ∙ c))) (omega (arith, length-take-le (suc j) bs (omega arith))))
    ])

-- the text from a place on, as it is borrowed
pub from_on : (text : List ℕ) (at : ℕ) → at ≤ length text → take (length text - at) (drop at text) ≡ drop at text
from_on text at h = take_all (length text - at) (drop at text) (omega (arith, length-drop at text))

-- the line that `line_at` answers where an LF follows, and where none does
pub line_with_feed : (text : List ℕ) (at i : ℕ) (rest line : List ℕ) → at ≤ length text → rest ≡ take (length text - at) (drop at text) → i < length rest → get_or rest i 0 ≡ 10 → NoFeed rest i → line ≡ without_cr (take i rest)
    → Some (line, at + i + 1) ≡ first_line at (broken (drop at text))
line_with_feed text at i rest line h r k lf n l = rw (l, ← (r ∙ from_on text at h)) (line_fed at rest i k lf n)

pub line_without_feed : (text : List ℕ) (at : ℕ) (rest : List ℕ) → at < length text → rest ≡ take (length text - at) (drop at text) → NoFeed rest (length rest) → Some (rest, length text) ≡ first_line at (broken (drop at text))
line_without_feed text at rest h r n =
    let e = r ∙ from_on text at (omega arith) in
    rw (← e) (line_last at rest (length text) (omega (arith, ap length e, length-drop at text)) (omega (arith, ap length e, length-drop at text)) n)
