-- What a told domain means, in the words of the rules: everything of a checker's state but the plan.
use Rattle.std.specs.Prelude.{◌≡◌, ℕ, Bool, true, not, List, [], ◌∷◌, map}
use Rattle.fixed.specs.Items.{items}
use Rattle.line.specs.declared.command.Command.{Command}
use Rattle.line.specs.declared.command.Command.TheVariants.{AppendAdd, AppendDelete, AppendNeed, CloseMethod, Decompose, EndPhase, Judge, NewCompound, NewPrimitive, NewStep, OpenMethod, PutLink, PutOrder, RouteAdd, RouteNeed, Take}
use Rattle.page.specs.declared.answer.Row.{Row}
use Rattle.semantics.specs.Causes.{told}
use Rattle.semantics.specs.Methods as meant
use Rattle.semantics.specs.Plans as planned
use Rattle.semantics.specs.Rules.{one_of, verdict}
use Rattle.semantics.specs.States.{next, State}
use Rattle.semantics.specs.Tasks.{Task}
use Rattle.semantics.specs.declared.phase.Phase.{Phase}
use Rattle.semantics.specs.declared.phase.Phase.TheVariants.{Initial, MethodOpen, Methods, Refine, Running, Tasks}
use Rattle.domain.specs.Meaning.{tasks}
use Rattle.methods.specs.Meaning.{method}
use Rattle.told_domain.specs.declared.told.Domain.{Domain}

-- The four parts: the phase, the tasks, the closed methods, and the method that is open or was open last.
pub record Parts : Type 0 where
  pub phase : Phase
  pub tasks : List Task
  pub methods : List meant.Method
  pub draft : meant.Method

abbrev pub parts : Domain → Parts
parts d = record { phase = d.phase; tasks = tasks d.known; methods = map method (items d.list); draft = method d.draft }

-- the same with another part
abbrev pub in_phase : Phase → Parts → Parts
in_phase ph d = record { phase = ph; tasks = d.tasks; methods = d.methods; draft = d.draft }

abbrev pub with_tasks : List Task → Parts → Parts
with_tasks ts d = record { phase = d.phase; tasks = ts; methods = d.methods; draft = d.draft }

abbrev pub with_methods : List meant.Method → Parts → Parts
with_methods ms d = record { phase = d.phase; tasks = d.tasks; methods = ms; draft = d.draft }

abbrev pub with_draft : meant.Method → Parts → Parts
with_draft m d = record { phase = d.phase; tasks = d.tasks; methods = d.methods; draft = m }

-- the phase after the plan is accepted
abbrev pub started : Phase → Phase
started Tasks = Tasks
started Methods = Methods
started MethodOpen = MethodOpen
started Initial = Initial
started Refine = Running
started Running = Running

-- the state of the rules with this domain and this plan, in which these steps are taken, the latest first
abbrev pub state_with : Parts → planned.Plan → List ℕ → State
state_with d p taken = record { phase = d.phase; tasks = d.tasks; methods = d.methods; draft = d.draft; plan = p; taken = taken }

-- whether the plan takes steps by S, and pairs and links by O and L
abbrev pub takes_steps : Phase → Bool
takes_steps ph = one_of ph (Initial ∷ [])

abbrev pub takes_order : Phase → Bool
takes_order ph = one_of ph (Initial ∷ Refine ∷ [])

-- Whether a command is not the plan's: S, O and L are in the phases in which a plan takes them, X and J in phase refine, and R in phase
-- running. Any other is the domain's, or of no phase at all.
abbrev pub of_domain : Phase → Command → Bool
of_domain ph NewPrimitive = true
of_domain ph NewCompound = true
of_domain ph (AppendNeed t f) = true
of_domain ph (AppendAdd t f) = true
of_domain ph (AppendDelete t f) = true
of_domain ph EndPhase = true
of_domain ph (OpenMethod t) = true
of_domain ph (NewStep t) = not (takes_steps ph)
of_domain ph (PutOrder p q) = not (takes_order ph)
of_domain ph (PutLink p i q j) = not (takes_order ph)
of_domain ph (RouteNeed j s k) = true
of_domain ph (RouteAdd i s k) = true
of_domain ph CloseMethod = true
of_domain ph (Decompose s m) = not (one_of ph (Refine ∷ []))
of_domain ph Judge = not (one_of ph (Refine ∷ []))
of_domain ph (Take s) = not (one_of ph (Running ∷ []))

-- A domain is told a command: beside any plan, with any steps taken and any capacity, its row and the state after it are those of the
-- rules.
pub record Tells (d : Parts) (c : Command) (w : Row) (e : Parts) : Type 0 where
  pub answers : (n : ℕ) (p : planned.Plan) (taken : List ℕ) → w ≡ verdict n (state_with d p taken) c
  pub leaves : (p : planned.Plan) (taken : List ℕ) → told w (next (state_with d p taken) c) (state_with d p taken) ≡ state_with e p taken
