-- What the program prints.
use Rattle.std.specs.Prelude.{ℕ, cond, List, [], length, nat_le}
use Rattle.page.specs.Answers.{as_row}
use Rattle.page.specs.Lines.{lines}
use Rattle.page.specs.Rows.{row_text}
use Rattle.checker.specs.Runs.{rows_text}

-- The rows of all lines of a text of at most 16,384 bytes, told to a newly opened checker whose plan has 64 step numbers; for a longer
-- text the row 10,16384,0,0 alone.
abbrev pub printed : List ℕ → List ℕ
printed text = cond (nat_le (length text) 16384) (rows_text 64 [] (lines text)) (row_text (as_row 10 16384 0 0))
