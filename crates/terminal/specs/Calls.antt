-- What the call leaves: a run over a text, from a newly opened checker whose plan has 64 step numbers.
use Rattle.std.specs.Prelude.{[], List, ◌++◌, ◌⊎◌, ◌≡◌, ◌+◌, ◌<◌, ℕ, length}
use Rattle.page.specs.Lines.{broken}
use Rattle.page.specs.Rows.{written}
use Rattle.semantics.specs.Promise.{Promises}
use Rattle.checker.specs.Runs.{after_lines, rows_text, texts, told_lines}

pub record Called (text page : List ℕ) (count : ℕ) (new : List ℕ) : Type 0 where
  -- the rows of the lines told stand at the start of the page, and its later bytes are as they were
  pub size : count ≡ length (rows_text 64 [] (texts (told_lines 64 [] text page)))
  pub rows : new ≡ written page 0 (rows_text 64 [] (texts (told_lines 64 [] text page)))
  -- every line of the text is told, or fewer than 28 bytes of the page are free
  pub ends : (told_lines 64 [] text page ≡ broken text) ⊎ (length page < count + 28)
  -- what the gate book witnesses, before and after each of the lines told
  pub promises : (done left : List (List ℕ)) → texts (told_lines 64 [] text page) ≡ done ++ left → Promises 64 (after_lines [] done)
