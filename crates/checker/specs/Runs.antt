-- What a run over a text leaves: the lines that it tells, their rows on the page, and the checker after them.
use Rattle.std.specs.Prelude.{◌≡◌, ℕ, ◌+◌, ◌-◌, ◌*◌, ◌<◌, ◌≤◌, cond, ◌⊎◌, List, [], ◌∷◌, ◌++◌, map, length, nat_le}
use Rattle.page.specs.Lines.{broken, Broken, put_together}
use Rattle.page.specs.Rows.{row_text, written}
use Rattle.semantics.specs.Promise.{answered, History, Promises, state}
use Rattle.checker.specs.Meaning.{Held, Means}

-- the lines without their breaks
abbrev pub texts : List Broken → List (List ℕ)
texts ps = map (λ p. p.0) ps

-- the history after some more lines, told in their order
abbrev pub after_lines : History → List (List ℕ) → History
after_lines past [] = past
after_lines past (l ∷ ls) = after_lines (l ∷ past) ls

-- A checker whose plan has so many step numbers.
module _ (capacity : ℕ) where
  -- the rows of some lines, told in their order after a history
  abbrev pub rows_text : History → List (List ℕ) → List ℕ
  rows_text past [] = []
  rows_text past (l ∷ ls) = row_text (answered capacity past l) ++ rows_text (l ∷ past) ls

  -- A line is told after a history: its row stands at a place of the page, no other byte is changed, and the checker is the one that
  -- the line leads to.
  pub record AnsweredOn (past : History) (line page : List ℕ) (at end : ℕ) (new : List ℕ) (after : Held) : Type 0 where
    pub row : new ≡ written page at (row_text (answered capacity past line))
    pub place : end ≡ at + length (row_text (answered capacity past line))
    pub short : length (row_text (answered capacity past line)) ≤ 28
    pub means : Means after (state capacity (line ∷ past))

  -- The lines that a run tells where so many bytes of the page are free: one after the other, as long as at least 28 are free.
  abbrev pub told_within : ℕ → History → List Broken → List Broken
  told_within free past [] = []
  told_within free past (p ∷ ps) =
      cond (nat_le 28 free) (p ∷ told_within (free - length (row_text (answered capacity past p.0))) (p.0 ∷ past) ps) []

  -- the lines of a text that a run tells onto a page
  abbrev pub told_lines : History → List ℕ → List ℕ → List Broken
  told_lines past text page = told_within (length page) past (broken text)

  -- A run over a text, told after some lines, onto a page: where the next line begins, how many bytes are written, the page and
  -- what the checker holds then.
  pub record Runs (past : History) (text page : List ℕ) (next count : ℕ) (new : List ℕ) (after : Held) : Type 0 where
    -- the next line begins after the lines told and their breaks
    pub place : next ≡ length (put_together (told_lines past text page))
    -- the rows of the lines told stand at the start of the page, and its later bytes are as they were
    pub size : count ≡ length (rows_text past (texts (told_lines past text page)))
    pub rows : new ≡ written page 0 (rows_text past (texts (told_lines past text page)))
    -- no row is longer than 28 bytes
    pub brief : count ≤ 28 * length (told_lines past text page)
    -- it ends only when no line is left or fewer than 28 bytes of the page are free
    pub ends : (told_lines past text page ≡ broken text) ⊎ (length page < count + 28)
    -- the checker is the one that these lines lead to
    pub means : Means after (state capacity (after_lines past (texts (told_lines past text page))))
    -- what the gate book witnesses, before and after each of these lines
    pub promises : (done left : List (List ℕ)) → texts (told_lines past text page) ≡ done ++ left → Promises capacity (after_lines past done)
