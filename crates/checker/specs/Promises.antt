-- What is promised of each line that a checker is told, whatever lines led to it.
use Rattle.std.specs.Prelude.{◌≡◌, ℕ, List, ◌∷◌}
use Rattle.page.specs.declared.answer.Row.{Row}
use Rattle.semantics.specs.Promise.{answered, History, Promises, state}
use Rattle.checker.specs.Meaning.{Held, Means}

-- The line is told after these lines and gets this row, and the checker holds this then.
pub record Kept (capacity : ℕ) (told : History) (line : List ℕ) (w : Row) (after : Held) : Type 0 where
  -- the row is the one that the rules give the line
  pub answers : w ≡ answered capacity told line
  -- the checker stands for the state that the rules give, so that the same can be said of the next line
  pub means : Means after (state capacity (line ∷ told))
  -- what the gate book witnesses of the lines before, and of this line as the next one
  pub promised : Promises capacity told
  -- what the gate book witnesses from now on
  pub promises : Promises capacity (line ∷ told)
