-- The gate book: an independent record of a run, fed each line with the code that it got. It asks neither checker nor keeper.
use Rattle.std.specs.Prelude.{◌≡◌, ℕ, zero, suc, true, false, cond, ◌⊎◌, List, [], ◌∷◌, ◌++◌, map, length, Some, None, Ok, Err, Option, Result, slice_set}
use Rattle.std.specs.List.{slice_get}
use Rattle.line.specs.Parse.{parsed}
use Rattle.line.specs.declared.command.Command.{Command}
use Rattle.line.specs.declared.command.Command.TheVariants.{AppendAdd, AppendDelete, AppendNeed, CloseMethod, Decompose, EndPhase, Judge, NewCompound, NewPrimitive, NewStep, OpenMethod, PutLink, PutOrder, RouteAdd, RouteNeed, Take}
use Rattle.line.specs.declared.command.Refusal.{Refusal}
use Rattle.semantics.specs.Closures.{And, Chained, Pairs}
use Rattle.semantics.specs.Decomposing.{Inherits, LinkPair, passed_down, renumbered}
use Rattle.semantics.specs.Facts.{after_step, Facts}
use Rattle.semantics.specs.Methods.{add_entry, blank, link_of, Method, need_entry, order_of, step_of}
use Rattle.semantics.specs.Phases.{is_refine, is_running, phase_after}
use Rattle.semantics.specs.Plans.{at_task, with_link, with_links}
use Rattle.semantics.specs.TaskLines.{tasks_with_add, tasks_with_delete, tasks_with_need, tasks_with_task}
use Rattle.semantics.specs.Tasks.{first_tasks, Task}
use Rattle.semantics.specs.declared.link.Link.{Link}
use Rattle.semantics.specs.declared.phase.Phase.{Phase}
use Rattle.semantics.specs.declared.phase.Phase.TheVariants.{Initial, MethodOpen, Methods, Refine, Running, Tasks}

-- The book's plan. Its order is a set of pairs without a limit, always transitive.
pub record BookPlan : Type 1 where
  pub steps : List (Option ℕ)
  pub links : List Link
  pub before : Pairs

-- The book: phase, domain, open method, plan, and the facts that hold.
pub record Book : Type 1 where
  pub phase : Phase
  pub tasks : List Task
  pub methods : List Method
  pub draft : Method
  pub plan : BookPlan
  pub facts : Facts

-- a new step of the plan, after step 0 and before step 1
abbrev pub write_step : BookPlan → ℕ → BookPlan
write_step p t = record {
  steps = p.steps ++ (Some t ∷ []);
  links = p.links;
  before = Chained (And (And p.before 0 (length p.steps)) (length p.steps) 1);
}

-- a pair of the plan
abbrev pub write_order : BookPlan → ℕ → ℕ → BookPlan
write_order p a b = record { steps = p.steps; links = p.links; before = Chained (And p.before a b) }

-- a link of the plan, with its pair where both ends are primitive
abbrev pub write_link : List Task → BookPlan → Link → BookPlan
write_link ts p l = record {
  steps = p.steps;
  links = with_link p.links l;
  before = Chained (λ x y. p.before x y ⊎ LinkPair ts p.steps l x y);
}

-- Step s is decomposed by m: it leaves, the method's steps get the next numbers, links are passed down and the method's join,
-- and the order is the smallest transitive relation that holds the inherited pairs.
abbrev pub decomposed : List Task → BookPlan → ℕ → Method → BookPlan
decomposed ts p s m =
    let n : ℕ = length p.steps in
    let ss : List (Option ℕ) = slice_set p.steps s None ++ map Some m.steps in
    let ls : List Link = with_links [] (map (passed_down n s m) p.links ++ map (renumbered n) m.links) in
    record { steps = ss; links = ls; before = Chained (Inherits ts p.before n s m ss ls) }

-- the parts of a book, each put in place of the old one
abbrev pub write_tasks : Book → List Task → Book
write_tasks b ts = record { phase = b.phase; tasks = ts; methods = b.methods; draft = b.draft; plan = b.plan; facts = b.facts }

abbrev pub write_methods : Book → List Method → Book
write_methods b ms = record { phase = b.phase; tasks = b.tasks; methods = ms; draft = b.draft; plan = b.plan; facts = b.facts }

abbrev pub write_draft : Book → Method → Book
write_draft b m = record { phase = b.phase; tasks = b.tasks; methods = b.methods; draft = m; plan = b.plan; facts = b.facts }

abbrev pub write_plan : Book → BookPlan → Book
write_plan b p = record { phase = b.phase; tasks = b.tasks; methods = b.methods; draft = b.draft; plan = p; facts = b.facts }

abbrev pub write_facts : Book → Facts → Book
write_facts b fs = record { phase = b.phase; tasks = b.tasks; methods = b.methods; draft = b.draft; plan = b.plan; facts = fs }

abbrev pub turn_to : Book → Phase → Book
turn_to b ph = record { phase = ph; tasks = b.tasks; methods = b.methods; draft = b.draft; plan = b.plan; facts = b.facts }

abbrev pub decompose_by : Book → ℕ → Option Method → Book
decompose_by b s None = b
decompose_by b s (Some m) = write_plan b (decomposed b.tasks b.plan s m)

-- in the phases of a plan or a method, a step, a pair or a link goes to the one that is open
abbrev pub enter_step : Phase → ℕ → Book → Book
enter_step Tasks t b = b
enter_step Methods t b = b
enter_step MethodOpen t b = write_draft b (step_of b.draft t)
enter_step Initial t b = write_plan b (write_step b.plan t)
enter_step Refine t b = b
enter_step Running t b = b

abbrev pub enter_order : Phase → ℕ → ℕ → Book → Book
enter_order Tasks p q b = b
enter_order Methods p q b = b
enter_order MethodOpen p q b = write_draft b (order_of b.draft p q)
enter_order Initial p q b = write_plan b (write_order b.plan p q)
enter_order Refine p q b = write_plan b (write_order b.plan p q)
enter_order Running p q b = b

abbrev pub enter_link : Phase → Link → Book → Book
enter_link Tasks l b = b
enter_link Methods l b = b
enter_link MethodOpen l b = write_draft b (link_of b.tasks b.draft l)
enter_link Initial l b = write_plan b (write_link b.tasks b.plan l)
enter_link Refine l b = write_plan b (write_link b.tasks b.plan l)
enter_link Running l b = b

-- the task of step s of the book's plan
abbrev pub task_in_book : Book → ℕ → Option Task
task_in_book b s = at_task b.tasks (slice_get b.plan.steps s)

-- what an accepted command enters
abbrev pub enter : Command → Book → Book
enter NewPrimitive b = write_tasks b (tasks_with_task true b.tasks)
enter NewCompound b = write_tasks b (tasks_with_task false b.tasks)
enter (AppendNeed t f) b = write_tasks b (tasks_with_need t f b.tasks)
enter (AppendAdd t f) b = write_tasks b (tasks_with_add t f b.tasks)
enter (AppendDelete t f) b = write_tasks b (tasks_with_delete t f b.tasks)
enter EndPhase b = b
enter (OpenMethod t) b = write_draft b (blank t)
enter (NewStep t) b = enter_step b.phase t b
enter (PutOrder p q) b = enter_order b.phase p q b
enter (PutLink p i q j) b = enter_link b.phase (record { producer = p; add = i; consumer = q; need = j }) b
enter (RouteNeed j s k) b = write_draft b (need_entry b.draft j (s, k))
enter (RouteAdd i s k) b = write_draft b (add_entry b.draft i (s, k))
enter CloseMethod b = write_methods b (b.methods ++ (b.draft ∷ []))
enter (Decompose s m) b = cond (is_refine b.phase) (decompose_by b s (slice_get b.methods m)) b
enter Judge b = b
enter (Take s) b = cond (is_running b.phase) (write_facts b (after_step (task_in_book b s) b.facts)) b

-- A line that is no command, and a line with another code than 0, change nothing; an accepted one enters, and moves the phase.
abbrev pub fed : Book → Result Command Refusal → ℕ → Book
fed b (Err e) code = b
fed b (Ok c) zero = turn_to (enter c b) (phase_after c b.phase)
fed b (Ok c) (suc code) = b

-- the book after a line with its code
abbrev pub feed : Book → List ℕ → ℕ → Book
feed b line code = fed b (parsed line) code

-- the book as it opens: phase tasks, init and goal, 0 before 1, and no facts
abbrev pub open_book : Book
open_book = record {
  phase = Tasks;
  tasks = first_tasks;
  methods = [];
  draft = blank 0;
  plan = record { steps = Some 0 ∷ Some 1 ∷ []; links = []; before = λ x y. (x ≡ 0) × (y ≡ 1) };
  facts = λ f. false;
}
