-- Each answer as a row: its code, and up to three numbers. A number that says nothing is 0.
use Rattle.std.specs.Prelude.{ℕ, Ok, Err, Result}
use Rattle.line.specs.declared.command.Refusal as unreadable
use Rattle.line.specs.declared.command.Refusal.TheVariants as unreadable_as
use Rattle.page.specs.declared.answer.Refusal.{Refusal}
use Rattle.page.specs.declared.answer.Refusal.TheVariants.{BadByte, NoLetter, FieldCount, NoNumber, WrongPhase, NoSuchName, WrongKind, AlreadyGiven, FactsDiffer, LimitPassed, Circle, EntryMissing, StepWaiting, CompoundStep, OpenNeed, Threatened}
use Rattle.page.specs.declared.answer.Row.{Row}
use Rattle.page.specs.declared.answer.Side.{Side}
use Rattle.page.specs.declared.answer.Side.TheVariants.{Need, Add}

-- the side of an entry, as a number
abbrev pub side_number : Side → ℕ
side_number Need = 0
side_number Add = 1

-- four numbers as a row
abbrev pub as_row : ℕ → ℕ → ℕ → ℕ → Row
as_row n x y z = record { code = n; a = x; b = y; c = z }

-- the row of each refusal
abbrev pub refusal_row : Refusal → Row
refusal_row (BadByte place) = as_row 1 place 0 0
refusal_row NoLetter = as_row 2 0 0 0
refusal_row (FieldCount count) = as_row 3 count 0 0
refusal_row (NoNumber field) = as_row 4 field 0 0
refusal_row WrongPhase = as_row 5 0 0 0
refusal_row (NoSuchName field) = as_row 6 field 0 0
refusal_row WrongKind = as_row 7 0 0 0
refusal_row AlreadyGiven = as_row 8 0 0 0
refusal_row FactsDiffer = as_row 9 0 0 0
refusal_row LimitPassed = as_row 10 0 0 0
refusal_row Circle = as_row 11 0 0 0
refusal_row (EntryMissing side label) = as_row 12 (side_number side) label 0
refusal_row (StepWaiting step) = as_row 13 step 0 0
refusal_row (CompoundStep step) = as_row 14 step 0 0
refusal_row (OpenNeed step label) = as_row 15 step label 0
refusal_row (Threatened threat producer consumer) = as_row 16 threat producer consumer

-- the row of an answer: code 0 with the number that the command gives back, or the row of the refusal
abbrev pub row : Result ℕ Refusal → Row
row (Ok number) = as_row 0 number 0 0
row (Err refusal) = refusal_row refusal

-- the refusal of a line that is no command
abbrev pub unread : unreadable.Refusal → Refusal
unread (unreadable_as.BadByte place) = BadByte place
unread unreadable_as.NoLetter = NoLetter
unread (unreadable_as.FieldCount count) = FieldCount count
unread (unreadable_as.NoNumber field) = NoNumber field
