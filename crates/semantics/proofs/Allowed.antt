-- What must hold for a command to be accepted, and what the rows must be.
-- the task of a step of what is open, and the task of the open method
use Rattle.std.proofs.Common.{◌≡◌, ℕ, ◌<◌, ◌≤◌, true, false, ◌⊎◌, List, ◌∷◌, map, length, Some, Option}
use Rattle.std.specs.List.{slice_get}
use Rattle.line.specs.declared.command.Command.{Command}
use Rattle.line.specs.declared.command.Command.TheVariants.{AppendAdd, AppendDelete, AppendNeed, CloseMethod, Decompose, EndPhase, Judge, NewCompound, NewPrimitive, NewStep, OpenMethod, PutLink, PutOrder, RouteAdd, RouteNeed, Take}
use Rattle.page.specs.declared.answer.Row.{Row}
use Rattle.semantics.specs.Decomposing.{decompose_step}
use Rattle.semantics.specs.Drafts.{AddGoes, NeedGoes, OwnEnds}
use Rattle.semantics.specs.Facts.{as_sum, CanTake, facts_after}
use Rattle.semantics.specs.Methods.{Method}
use Rattle.semantics.specs.OpenLines.{task_at}
use Rattle.semantics.specs.Orders.{Holds, In}
use Rattle.semantics.specs.Plans.{both_primitive, Executable, Linked, Plan, Protects, Sound, steps_of, task_of, Threat}
use Rattle.semantics.specs.Rules.{steps_now}
use Rattle.semantics.specs.States.{State}
use Rattle.semantics.specs.Tasks.{Labelled, Task}
use Rattle.semantics.specs.declared.link.Link.{Link}
use Rattle.semantics.specs.declared.phase.Phase.{Phase}
use Rattle.semantics.specs.declared.phase.Phase.TheVariants.{Initial, MethodOpen, Methods, Refine, Running, Tasks}

abbrev pub task_now : State → ℕ → Option Task
task_now st s = task_at st.tasks (steps_now st) s

abbrev pub method_task : State → Option Task
method_task st = slice_get st.tasks st.draft.task

-- the ends of a link of a plan are two steps and name one fact; between primitive steps the order has room for it
pub record Room (ts : List Task) (p : Plan) (l : Link) : Type 0 where
  pub f : ℕ
  pub giver : Task
  pub taker : Task
  pub gives : task_of ts p l.producer ≡ Some giver
  pub takes : task_of ts p l.consumer ≡ Some taker
  pub added : Labelled giver.adds l.add f
  pub needed : Labelled taker.needs l.need f
  pub apart : l.producer ≡ l.consumer → ⊥
  pub not_back : giver.primitive ≡ true → taker.primitive ≡ true → Holds p.before l.consumer l.producer → ⊥

-- the plan is being told or refined
abbrev pub PlanOpen : Phase → Type 0
PlanOpen ph = (ph ≡ Initial) ⊎ (ph ≡ Refine)

-- What must hold for a line to be accepted.
abbrev pub Allowed : State → Command → Type 0
Allowed st NewPrimitive = st.phase ≡ Tasks
Allowed st NewCompound = st.phase ≡ Tasks
Allowed st (AppendNeed t f) = st.phase ≡ Tasks
Allowed st (AppendAdd t f) = st.phase ≡ Tasks
Allowed st (AppendDelete t f) = st.phase ≡ Tasks
Allowed st EndPhase = (st.phase ≡ Tasks) ⊎ ((st.phase ≡ Methods) ⊎ (st.phase ≡ Initial))
Allowed st (OpenMethod t) = (st.phase ≡ Methods) × ((u : Task) × (slice_get st.tasks t ≡ Some u) × (u.primitive ≡ false))
Allowed st (NewStep t) = ((u : Task) × (slice_get st.tasks t ≡ Some u)) × ((st.phase ≡ MethodOpen) ⊎ (st.phase ≡ Initial)) × (2 ≤ t)
Allowed st (PutOrder p q) = ((st.phase ≡ MethodOpen) × (p < length st.draft.steps) × (q < length st.draft.steps) × (p ≡ q → ⊥) × (Holds st.draft.before q p → ⊥))
    ⊎ (PlanOpen st.phase × In p (steps_of st.plan) × In q (steps_of st.plan) × (p ≡ q → ⊥) × (Holds st.plan.before q p → ⊥))
Allowed st (PutLink p i q j) = ((st.phase ≡ MethodOpen) × OwnEnds st.tasks st.draft (record { producer = p; add = i; consumer = q; need = j }) × (p ≡ q → ⊥)
    × (both_primitive st.tasks (map Some st.draft.steps) (record { producer = p; add = i; consumer = q; need = j }) ≡ true → Holds st.draft.before q p → ⊥))
    ⊎ (PlanOpen st.phase × Room st.tasks st.plan (record { producer = p; add = i; consumer = q; need = j }))
Allowed st (RouteNeed j s k) = (st.phase ≡ MethodOpen) × ((t : Task) × (slice_get st.tasks st.draft.task ≡ Some t) × NeedGoes st.tasks st.draft t j (s, k))
Allowed st (RouteAdd i s k) = (st.phase ≡ MethodOpen) × ((t : Task) × (slice_get st.tasks st.draft.task ≡ Some t) × AddGoes st.tasks st.draft t i (s, k))
Allowed st CloseMethod = (st.phase ≡ MethodOpen) × ((t : Task) × (slice_get st.tasks st.draft.task ≡ Some t)
    × ((j f : ℕ) → Labelled t.needs j f → (e : ℕ × ℕ) × (st.draft.needs_go j ≡ Some e))
    × ((i f : ℕ) → Labelled t.adds i f → (e : ℕ × ℕ) × (st.draft.adds_go i ≡ Some e)))
Allowed st (Decompose s m) = (st.phase ≡ Refine) × ((n : Method) × (slice_get st.methods m ≡ Some n) × (slice_get st.plan.steps s ≡ Some (Some n.task))
    × ((q : Plan) × (decompose_step st.tasks st.plan s n ≡ Some q)))
Allowed st Judge = (st.phase ≡ Refine) × Executable st.tasks st.plan
Allowed st (Take s) = (st.phase ≡ Running) × CanTake st.plan st.taken s

-- A state in which the plan is sound, and a method that is open has a known task.
pub record Lawful (st : State) : Type 0 where
  pub sound : Sound st.tasks st.plan
  pub own_task : st.phase ≡ MethodOpen → (t : Task) × (slice_get st.tasks st.draft.task ≡ Some t)

-- What the answers must be, in every such state: a line is accepted only if it is allowed, a take line if it is allowed, the count of steps and the facts are told as they are, and a threat that is named is one.
pub record Careful (verdict : State → Command → Row) : Type 0 where
  pub allowed : (st : State) → Lawful st → (l : Command) → (verdict st l).code ≡ 0 → Allowed st l
  pub takes : (st : State) → Lawful st → (s : ℕ) → Allowed st (Take s) → (verdict st (Take s)).code ≡ 0
  pub counts : (st : State) → (verdict st Judge).code ≡ 0 → (verdict st Judge).a ≡ length (steps_of st.plan)
  pub sums : (st : State) (s : ℕ) → (verdict st (Take s)).code ≡ 0 → (verdict st (Take s)).a ≡ as_sum (facts_after st.tasks st.plan (s ∷ st.taken))
  pub threatens : (st : State) → Lawful st → (verdict st Judge).code ≡ 16
      → ((s : ℕ) (t : Task) → task_of st.tasks st.plan s ≡ Some t → t.primitive ≡ true)
      × ((l : Link) × (f : ℕ) × Linked l st.plan.links × Protects st.tasks st.plan l f
      × Threat st.tasks st.plan l f (verdict st Judge).a
      × ((verdict st Judge).b ≡ l.producer) × ((verdict st Judge).c ≡ l.consumer))
