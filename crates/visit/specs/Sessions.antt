-- What becomes of each line as far as the plan: the row that it gets, if any yet, and what it leaves.
use Rattle.std.specs.Prelude.{ℕ, Bool, true, false, cond, List, [], ◌∷◌, Some, None, Ok, Err, Option, Result}
use Rattle.std.specs.Option.{option_map}
use Rattle.line.specs.Parse.{parsed}
use Rattle.line.specs.declared.command.Command.{Command}
use Rattle.line.specs.declared.command.Refusal as unreadable
use Rattle.page.specs.Answers.{refusal_row, row, unread}
use Rattle.page.specs.declared.answer.Refusal.{Refusal}
use Rattle.page.specs.declared.answer.Row.{Row}
use Rattle.semantics.specs.Causes.{told}
use Rattle.semantics.specs.Rules.{verdict}
use Rattle.semantics.specs.States.{next, opening_plan, State}
use Rattle.semantics.specs.declared.phase.Phase.{Phase}
use Rattle.semantics.specs.declared.phase.Phase.TheVariants.{Initial, MethodOpen, Methods, Refine, Running, Tasks}
use Rattle.told_domain.specs.Domains.{Parts, state_with}
use Rattle.visit.specs.declared.session.Told.{Told}

-- a checker with this domain, of whose plan nothing is told; and the domain of a checker
abbrev pub state : Parts → State
state d = state_with d opening_plan []

abbrev pub domain_of : State → Parts
domain_of st = record { phase = st.phase; tasks = st.tasks; methods = st.methods; draft = st.draft }

-- the plan is not yet told
abbrev pub before_plan : Phase → Bool
before_plan Tasks = true
before_plan Methods = true
before_plan MethodOpen = true
before_plan Initial = false
before_plan Refine = false
before_plan Running = false

-- A command gets its row by the rules as long as the plan is not told; after that it gets none yet. Before the plan the capacity,
-- here 64, shows in no row.
abbrev pub command_row : Parts → Command → Option Row
command_row d c = cond (before_plan d.phase) (Some (verdict 64 (state d) c)) None

-- what a command leaves
abbrev pub command_after : Parts → Command → Parts
command_after d c = cond (before_plan d.phase) (told (verdict 64 (state d) c) (domain_of (next (state d) c)) d) d

-- the row of a line: the refusal of its reading, or the row of its command; a line that is no command leaves all as it was
abbrev pub line_row : Parts → Result Command unreadable.Refusal → Option Row
line_row d (Ok c) = command_row d c
line_row d (Err e) = Some (refusal_row (unread e))

abbrev pub line_after : Parts → Result Command unreadable.Refusal → Parts
line_after d (Ok c) = command_after d c
line_after d (Err e) = d

-- what some lines leave, told one after another
abbrev pub lines_after : Parts → List (List ℕ) → Parts
lines_after d [] = d
lines_after d (l ∷ ls) = lines_after (line_after d (parsed l)) ls

-- the row of an answer that may be none
abbrev pub answer_row : Option (Result ℕ Refusal) → Option Row
answer_row o = option_map row o

-- the row that a reply tells, and what the line was read as
abbrev pub reply_row : Result Told unreadable.Refusal → Option Row
reply_row (Ok t) = answer_row t.answer
reply_row (Err e) = Some (refusal_row (unread e))

abbrev pub read : Result Told unreadable.Refusal → Result Command unreadable.Refusal
read (Ok t) = Ok t.command
read (Err e) = Err e
