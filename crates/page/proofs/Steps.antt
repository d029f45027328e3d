-- From one line of a text to the next: for those who go through a text with `line_at`.
use Rattle.std.proofs.Common.{◌≡◌, ℕ, suc, ◌+◌, ◌≤◌, Bool, true, false, cond, ◌&&◌, eqb, List, [], ◌∷◌, map, length, drop, Some, None, sym, refl, ap, ◌∙◌, subst, arith}
use Rattle.std.proofs.lemmas.List.{drop-drop}
use Rattle.page.proofs.Breaking.{Kept, of_lines}
use Rattle.page.specs.Lines.{Broken, broken, cr_first, lines, first_line, on_first, starts_lf}

-- what stands after the first line and its break has the other lines
abbrev Stepped : List ℕ → List Broken → Type 0
Stepped text [] = Unit {0}
Stepped text ((l, e) ∷ ps) = broken (drop (length l + length e) text) ≡ ps

stepped : Kept Stepped
stepped =
    record {
      none = tt;
      lf = λ bs h. refl;
      crlf = λ bs h. refl;
      last = λ b bs n e h. e;
      more = λ b bs l e ps n m h. (let q : suc (length l) + length e ≡ suc (length l + length e) = omega arith in ap (λ i. broken (drop i (b ∷ bs))) q ∙ h);
    }

-- one line on: after the first line and its break stand the other lines
pub broken_step : (text l e : List ℕ) (ps : List Broken) → broken text ≡ (l, e) ∷ ps → broken (drop (length l + length e) text) ≡ ps
broken_step text l e ps h = subst (Stepped text) h (of_lines Stepped stepped text)

-- the same, from a place of the text on
pub broken_next : (text : List ℕ) (at : ℕ) (l e : List ℕ) (ps : List Broken) → broken (drop at text) ≡ (l, e) ∷ ps → broken (drop (at + (length l + length e)) text) ≡ ps
broken_next text at l e ps h = ap broken (sym (drop-drop (length l + length e) at text)) ∙ broken_step (drop at text) l e ps h

-- the first line with its break, from what `line_at` answers
pub record First (ps : List Broken) (at : ℕ) (line : List ℕ) (next : ℕ) : Type 0 where
  pub ending : List ℕ
  pub others : List Broken
  pub is : ps ≡ (line, ending) ∷ others
  pub place : next ≡ at + (length line + length ending)

pub first_of : (ps : List Broken) (at : ℕ) (line : List ℕ) (next : ℕ) → Some (line, next) ≡ first_line at ps → First ps at line next
first_of [] at line next h = let z : ◌≡◌ {A = ℕ} 0 1 = cc in absurd (omega arith)
first_of ((l, e) ∷ ps) at line next h =
    let both : ◌≡◌ {A = List ℕ × ℕ} (line, next) (l, at + (length l + length e)) = cc in
    let q : line ≡ l = ap (λ p. p.0) both in
    record { ending = e; others = ps; is = ap (λ x. (x, e) ∷ ps) (sym q); place = ap (λ p. p.1) both ∙ ap (λ x. at + (length x + length e)) (sym q) }

abbrev first : Broken → List ℕ
first p = p.0

-- where `line_at` answers a line, the lines from the place on are that one and those from the next place on
pub lines_step : (text : List ℕ) (at : ℕ) (line : List ℕ) (next : ℕ) → Some (line, next) ≡ first_line at (broken (drop at text)) → lines (drop at text) ≡ line ∷ lines (drop next text)
lines_step text at line next h =
    let f = first_of (broken (drop at text)) at line next h in
    let rest : broken (drop next text) ≡ f.others = ap (λ n. broken (drop n text)) f.place ∙ broken_next text at line f.ending f.others f.is in
    ap (map first) f.is ∙ ap (λ ps. line ∷ map first ps) (sym rest)

pub none_of : (ps : List Broken) (at : ℕ) → None ≡ first_line at ps → ps ≡ []
none_of [] at h = refl
none_of ((l, e) ∷ ps) at h = let z : ◌≡◌ {A = ℕ} 0 1 = cc in absurd (omega arith)

-- ---- how many lines there are

length_on_first : (b : ℕ) (ps : List Broken) → length (on_first b ps) ≤ suc (length ps)
length_on_first b [] = omega arith
length_on_first b ((l, e) ∷ ps) = omega arith

length_cr_first : (ps : List Broken) → length (cr_first ps) ≤ length ps
length_cr_first [] = omega arith
length_cr_first ((l, e) ∷ ps) = omega arith

-- a text has no more lines than bytes
pub few_lines : (text : List ℕ) → length (broken text) ≤ length text
few_lines [] = omega arith
few_lines (b ∷ bs) = at (eqb b 10) (eqb b 13 && starts_lf bs) (few_lines bs)
  where
    at : (lf crlf : Bool) → length (broken bs) ≤ length bs → length (cond lf (([], 10 ∷ []) ∷ broken bs) (cond crlf (cr_first (broken bs)) (on_first b (broken bs)))) ≤ suc (length bs)
    at true crlf ih = omega arith
    at false true ih = let h = length_cr_first (broken bs) in omega arith
    at false false ih = let h = length_on_first b (broken bs) in omega arith
