-- On a page with room for a row for each byte of the text, a run tells every line.
use Rattle.std.proofs.Common.{◌≡◌, ℕ, suc, ◌+◌, ◌-◌, ◌*◌, ◌≤◌, Bool, true, false, cond, ◌&&◌, eqb, leb, List, [], ◌∷◌, ◌++◌, length, take, drop, refl, ap, ◌∙◌, ⊎_elim, arith}
use Rattle.std.proofs.lemmas.List.{take_all, take-append-le}
use Rattle.page.specs.Lines.{broken, Broken, cr_first, lines, on_first, starts_lf}
use Rattle.page.specs.Rows.{row_text}
use Rattle.page.proofs.Steps.{few_lines}
use Rattle.semantics.specs.Promise.{answered, History}
use Rattle.checker.specs.Meaning.{Held}
use Rattle.checker.specs.Runs.{rows_text, Runs, texts, told_lines, told_within}

module _ (capacity : ℕ) where
  -- the lines told are the first ones, so as many as there are, are all
  no_more : (free : ℕ) (past : History) (ps : List Broken) → length (told_within capacity free past ps) ≤ length ps
  no_more free past [] = omega arith
  no_more free past (p ∷ ps) = at (leb 28 free) (no_more (free - length (row_text (answered capacity past p.0))) (p.0 ∷ past) ps)
    where
      at : (b : Bool) → length (told_within capacity (free - length (row_text (answered capacity past p.0))) (p.0 ∷ past) ps) ≤ length ps
          → length (cond b (p ∷ told_within capacity (free - length (row_text (answered capacity past p.0))) (p.0 ∷ past) ps) []) ≤ suc (length ps)
      at true ih = omega arith
      at false ih = omega arith

  all_told : (free : ℕ) (past : History) (ps : List Broken) → length ps ≤ length (told_within capacity free past ps) → told_within capacity free past ps ≡ ps
  all_told free past [] h = refl
  all_told free past (p ∷ ps) h = at (leb 28 free) (told_within capacity (free - length (row_text (answered capacity past p.0))) (p.0 ∷ past) ps) (all_told (free - length (row_text (answered capacity past p.0))) (p.0 ∷ past) ps) h
    where
      at : (b : Bool) (rest : List Broken) → (length ps ≤ length rest → rest ≡ ps) → suc (length ps) ≤ length (cond b (p ∷ rest) []) → cond b (p ∷ rest) [] ≡ p ∷ ps
      at true rest ih k = ap (λ (qs : List Broken). p ∷ qs) (ih (omega arith))
      at false rest ih k = absurd (let w : ⊥ = omega arith in w)

  module _ (past : History) (text page : List ℕ) (next count : ℕ) (new : List ℕ) (after : Held) (runs : Runs capacity past text page next count new after) (room : length page ≡ 28 * length text) where
    whole : told_lines capacity past text page ≡ broken text
    whole =
        ⊎_elim (λ e. e)
        (λ h. all_told (length page) past (broken text) (omega (arith, few_lines text, runs.brief)))
        runs.ends

    -- the bytes written are the rows of all lines
    pub all_rows : take count new ≡ rows_text capacity past (lines text)
    all_rows =
        let rows = rows_text capacity past (texts (told_lines capacity past text page)) in
        ap (take count) runs.rows ∙ ap (λ (n : ℕ). take n (rows ++ drop (0 + length rows) page)) runs.size ∙ take-append-le (length rows) rows (drop (0 + length rows) page) (omega arith) ∙ take_all (length rows) rows (omega arith) ∙ ap (λ (ps : List Broken). rows_text capacity past (texts ps)) whole

-- a slice that is lent from a list comes back whole
pub given_back : (count size : ℕ) (new old : List ℕ) → length new ≡ size → take count (take size (new ++ old)) ≡ take count new
given_back count size new old e = ap (take count) (take-append-le size new old (omega arith) ∙ take_all size new (omega arith))
