-- What a checker keeps, and what an accepted command makes of it.
use Rattle.std.specs.Prelude.{ℕ, true, false, cond, ◌&&◌, List, [], ◌∷◌, ◌++◌, length, Some, None, Option, ◌==◌}
use Rattle.std.specs.List.{slice_get}
use Rattle.line.specs.declared.command.Command.{Command}
use Rattle.line.specs.declared.command.Command.TheVariants.{AppendAdd, AppendDelete, AppendNeed, CloseMethod, Decompose, EndPhase, Judge, NewCompound, NewPrimitive, NewStep, OpenMethod, PutLink, PutOrder, RouteAdd, RouteNeed, Take}
use Rattle.semantics.specs.Decomposing.{decompose_step}
use Rattle.semantics.specs.Methods.{add_entry, blank, link_of, Method, need_entry, order_of, step_of}
use Rattle.semantics.specs.Orders.{put}
use Rattle.semantics.specs.Phases.{is_initial, is_refine, phase_after, where_open}
use Rattle.semantics.specs.Plans.{linked_order, Plan, with_link}
use Rattle.semantics.specs.TaskLines.{tasks_with_add, tasks_with_delete, tasks_with_need, tasks_with_task}
use Rattle.semantics.specs.Tasks.{first_tasks, Task}
use Rattle.semantics.specs.declared.link.Link.{Link}
use Rattle.semantics.specs.declared.phase.Phase.{Phase}
use Rattle.semantics.specs.declared.phase.Phase.TheVariants.{Tasks}

-- The state of a checker: its phase, the domain, the open method, the plan, and the steps taken, the latest first.
pub record State : Type 0 where
  pub phase : Phase
  pub tasks : List Task
  pub methods : List Method
  pub draft : Method
  pub plan : Plan
  pub taken : List ℕ

-- the plan as it opens: init is step 0, goal is step 1, and 0 is before 1
abbrev pub opening_plan : Plan
opening_plan = record { steps = Some 0 ∷ Some 1 ∷ []; links = []; before = λ x y. (x == 0) && (y == 1) }

-- a newly opened checker
abbrev pub opening : State
opening = record { phase = Tasks; tasks = first_tasks; methods = []; draft = blank 0; plan = opening_plan; taken = [] }

-- a plan with one step, pair or link more
abbrev pub plan_step : Plan → ℕ → Plan
plan_step p t = record {
  steps = p.steps ++ (Some t ∷ []);
  links = p.links;
  before = put (put p.before 0 (length p.steps)) (length p.steps) 1;
}

abbrev pub plan_order : Plan → ℕ → ℕ → Plan
plan_order p a b = record { steps = p.steps; links = p.links; before = put p.before a b }

abbrev pub plan_link : List Task → Plan → Link → Plan
plan_link ts p l = record {
  steps = p.steps;
  links = with_link p.links l;
  before = linked_order ts p.steps p.before l;
}

abbrev pub plan_or : Plan → Option Plan → Plan
plan_or p None = p
plan_or p (Some q) = q

abbrev pub decompose_with : List Task → Plan → ℕ → Option Method → Plan
decompose_with ts p s None = p
decompose_with ts p s (Some m) = plan_or p (decompose_step ts p s m)

-- the parts of a state, each put in place of the old one
abbrev pub with_tasks : State → List Task → State
with_tasks st ts = record { phase = st.phase; tasks = ts; methods = st.methods; draft = st.draft; plan = st.plan; taken = st.taken }

abbrev pub with_methods : State → List Method → State
with_methods st ms = record { phase = st.phase; tasks = st.tasks; methods = ms; draft = st.draft; plan = st.plan; taken = st.taken }

abbrev pub with_draft : State → Method → State
with_draft st m = record { phase = st.phase; tasks = st.tasks; methods = st.methods; draft = m; plan = st.plan; taken = st.taken }

abbrev pub with_plan : State → Plan → State
with_plan st p = record { phase = st.phase; tasks = st.tasks; methods = st.methods; draft = st.draft; plan = p; taken = st.taken }

abbrev pub with_taken : State → List ℕ → State
with_taken st ss = record { phase = st.phase; tasks = st.tasks; methods = st.methods; draft = st.draft; plan = st.plan; taken = ss }

abbrev pub in_phase : State → Phase → State
in_phase st ph = record { phase = ph; tasks = st.tasks; methods = st.methods; draft = st.draft; plan = st.plan; taken = st.taken }

-- a step goes to the open method or to the initial plan, a pair or a link to the open method or to the plan
abbrev pub with_step : Phase → State → ℕ → State
with_step ph st t = where_open ph st (with_draft st (step_of st.draft t)) (cond (is_initial ph) (with_plan st (plan_step st.plan t)) st)

abbrev pub with_order : Phase → State → ℕ → ℕ → State
with_order ph st p q = where_open ph st (with_draft st (order_of st.draft p q)) (with_plan st (plan_order st.plan p q))

abbrev pub with_link_of : Phase → State → Link → State
with_link_of ph st l = where_open ph st (with_draft st (link_of st.tasks st.draft l)) (with_plan st (plan_link st.tasks st.plan l))

-- what an accepted command does
abbrev pub done : State → Command → State
done st NewPrimitive = with_tasks st (tasks_with_task true st.tasks)
done st NewCompound = with_tasks st (tasks_with_task false st.tasks)
done st (AppendNeed t f) = with_tasks st (tasks_with_need t f st.tasks)
done st (AppendAdd t f) = with_tasks st (tasks_with_add t f st.tasks)
done st (AppendDelete t f) = with_tasks st (tasks_with_delete t f st.tasks)
done st EndPhase = st
done st (OpenMethod t) = with_draft st (blank t)
done st (NewStep t) = with_step st.phase st t
done st (PutOrder p q) = with_order st.phase st p q
done st (PutLink p i q j) = with_link_of st.phase st (record { producer = p; add = i; consumer = q; need = j })
done st (RouteNeed j s k) = with_draft st (need_entry st.draft j (s, k))
done st (RouteAdd i s k) = with_draft st (add_entry st.draft i (s, k))
done st CloseMethod = with_methods st (st.methods ++ (st.draft ∷ []))
done st (Decompose s m) = cond (is_refine st.phase) (with_plan st (decompose_with st.tasks st.plan s (slice_get st.methods m))) st
done st Judge = st
done st (Take s) = with_taken st (s ∷ st.taken)

-- the state after an accepted command
abbrev pub next : State → Command → State
next st c = in_phase (done st c) (phase_after c st.phase)
