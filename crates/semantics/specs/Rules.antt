-- The rules: for a capacity, a state and a line, the row that answers it and the state after.
use Rattle.std.specs.Prelude.{ℕ, zero, suc, Bool, false, not, ◌||◌, List, [], ◌∷◌, map, length, Some, Ok, Err, Option, Result, ◌==◌}
use Rattle.std.specs.List.{slice_get}
use Rattle.line.specs.Parse.{parsed}
use Rattle.line.specs.declared.command.Command.{Command}
use Rattle.line.specs.declared.command.Command.TheVariants.{AppendAdd, AppendDelete, AppendNeed, CloseMethod, Decompose, EndPhase, Judge, NewCompound, NewPrimitive, NewStep, OpenMethod, PutLink, PutOrder, RouteAdd, RouteNeed, Take}
use Rattle.line.specs.declared.command.Refusal.{Refusal}
use Rattle.page.specs.Answers.{refusal_row, unread}
use Rattle.page.specs.Lines.{lines}
use Rattle.page.specs.declared.answer.Row.{Row}
use Rattle.semantics.specs.Causes.{Cause, first_of, when}
use Rattle.semantics.specs.Facts.{as_sum, facts_after}
use Rattle.semantics.specs.OpenLines.{add_entry_causes, close_causes, link_causes, method_causes, need_entry_causes, order_causes, step_causes}
use Rattle.semantics.specs.Orders.{Relation}
use Rattle.semantics.specs.Phases.{where_open}
use Rattle.semantics.specs.PlanLines.{decompose_causes, judge_causes, take_causes}
use Rattle.semantics.specs.Plans.{steps_of}
use Rattle.semantics.specs.States.{next, State}
use Rattle.semantics.specs.TaskLines.{add_causes, delete_causes, need_causes, task_causes}
use Rattle.semantics.specs.Tasks.{adds_of, deletes_of, needs_of}
use Rattle.semantics.specs.declared.link.Link.{Link}
use Rattle.semantics.specs.declared.phase.Phase.{Phase}
use Rattle.semantics.specs.declared.phase.Phase.TheVariants.{Initial, MethodOpen, Methods, Refine, Running, Tasks}

abbrev pub rank : Phase → ℕ
rank Tasks = 0
rank Methods = 1
rank MethodOpen = 2
rank Initial = 3
rank Refine = 4
rank Running = 5

abbrev pub one_of : Phase → List Phase → Bool
one_of ph [] = false
one_of ph (q ∷ qs) = rank ph == rank q || one_of ph qs

-- 5: the letter is not of this phase
abbrev pub outside : Phase → List Phase → Option (ℕ × ℕ × ℕ)
outside ph qs = when (not (one_of ph qs))

-- while a method is open, what is the method's; else what is the plan's
abbrev pub open_one : {X : Type 0} → Phase → X → X → X
open_one ph m p = where_open ph p m p

abbrev pub steps_now : State → List (Option ℕ)
steps_now st = open_one st.phase (map Some st.draft.steps) st.plan.steps

abbrev pub links_now : State → List Link
links_now st = open_one st.phase st.draft.links st.plan.links

abbrev pub order_now : State → Relation
order_now st = open_one st.phase st.draft.before st.plan.before

-- a method has at most 8 steps and 16 links, a plan as many step numbers as the capacity and at most 256 links
abbrev pub steps_limit : ℕ → State → ℕ
steps_limit capacity st = open_one st.phase 8 capacity

abbrev pub links_limit : State → ℕ
links_limit st = open_one st.phase 16 256

-- ---- the causes of each command, in rising number, for a plan with so many step numbers

abbrev pub causes : ℕ → State → Command → List Cause
causes capacity st NewPrimitive = (5, outside st.phase (Tasks ∷ [])) ∷ task_causes st.tasks
causes capacity st NewCompound = (5, outside st.phase (Tasks ∷ [])) ∷ task_causes st.tasks
causes capacity st (AppendNeed t f) = (5, outside st.phase (Tasks ∷ [])) ∷ need_causes st.tasks t f
causes capacity st (AppendAdd t f) = (5, outside st.phase (Tasks ∷ [])) ∷ add_causes st.tasks t f
causes capacity st (AppendDelete t f) = (5, outside st.phase (Tasks ∷ [])) ∷ delete_causes st.tasks t f
causes capacity st EndPhase = (5, outside st.phase (Tasks ∷ Methods ∷ Initial ∷ [])) ∷ []
causes capacity st (OpenMethod t) = (5, outside st.phase (Methods ∷ [])) ∷ method_causes st.tasks (length st.methods) t
causes capacity st (NewStep t) = (5, outside st.phase (MethodOpen ∷ Initial ∷ [])) ∷ step_causes st.tasks (length (steps_now st)) (steps_limit capacity st) t
causes capacity st (PutOrder p q) = (5, outside st.phase (MethodOpen ∷ Initial ∷ Refine ∷ [])) ∷ order_causes (steps_now st) (order_now st) p q
causes capacity st (PutLink p i q j) =
    (5, outside st.phase (MethodOpen ∷ Initial ∷ Refine ∷ []))
    ∷ link_causes st.tasks (steps_now st) (links_now st) (order_now st) (links_limit st) (record { producer = p; add = i; consumer = q; need = j })
causes capacity st (RouteNeed j s k) = (5, outside st.phase (MethodOpen ∷ [])) ∷ need_entry_causes st.tasks st.draft j s k
causes capacity st (RouteAdd i s k) = (5, outside st.phase (MethodOpen ∷ [])) ∷ add_entry_causes st.tasks st.draft i s k
causes capacity st CloseMethod = (5, outside st.phase (MethodOpen ∷ [])) ∷ close_causes st.tasks st.draft
causes capacity st (Decompose s m) = (5, outside st.phase (Refine ∷ [])) ∷ decompose_causes capacity st.tasks st.methods st.plan s m
causes capacity st Judge = (5, outside st.phase (Refine ∷ [])) ∷ judge_causes st.tasks st.plan
causes capacity st (Take s) = (5, outside st.phase (Running ∷ [])) ∷ take_causes st.plan st.taken s

-- the number a that an accepted command answers
abbrev pub number_told : State → Command → ℕ
number_told st NewPrimitive = length st.tasks
number_told st NewCompound = length st.tasks
number_told st (AppendNeed t f) = length (needs_of (slice_get st.tasks t))
number_told st (AppendAdd t f) = length (adds_of (slice_get st.tasks t))
number_told st (AppendDelete t f) = length (deletes_of (slice_get st.tasks t))
number_told st EndPhase = 0
number_told st (OpenMethod t) = length st.methods
number_told st (NewStep t) = length (steps_now st)
number_told st (PutOrder p q) = 0
number_told st (PutLink p i q j) = 0
number_told st (RouteNeed j s k) = 0
number_told st (RouteAdd i s k) = 0
number_told st CloseMethod = 0
number_told st (Decompose s m) = length st.plan.steps
number_told st Judge = length (steps_of st.plan)
number_told st (Take s) = as_sum (facts_after st.tasks st.plan (s ∷ st.taken))

-- the row of a command: the first cause that applies, or 0 and its number
abbrev pub verdict : ℕ → State → Command → Row
verdict capacity st c = first_of (causes capacity st c) (number_told st c)

-- ---- lines of bytes

-- the row of what a line was read as; a line that is no command has one of the causes 1 to 4
abbrev pub row_for : ℕ → State → Result Command Refusal → Row
row_for capacity st (Ok c) = verdict capacity st c
row_for capacity st (Err e) = refusal_row (unread e)

-- an accepted command changes the state, and any other line leaves it as it was
abbrev pub state_for : State → Result Command Refusal → ℕ → State
state_for st (Err e) code = st
state_for st (Ok c) zero = next st c
state_for st (Ok c) (suc code) = st

-- the row that answers a line
abbrev pub answer : ℕ → State → List ℕ → Row
answer capacity st line = row_for capacity st (parsed line)

-- the state after the line
abbrev pub tell : ℕ → State → List ℕ → State
tell capacity st line = state_for st (parsed line) (answer capacity st line).code

-- the rows of some lines, in their order
abbrev pub rows : ℕ → State → List (List ℕ) → List Row
rows capacity st [] = []
rows capacity st (line ∷ lines) = answer capacity st line ∷ rows capacity (tell capacity st line) lines
