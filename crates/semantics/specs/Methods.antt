-- Methods: how a compound task is carried out by a small plan of its own.
use Rattle.std.specs.Prelude.{◌≡◌, ℕ, ◌<◌, ◌≤◌, true, false, cond, List, [], ◌∷◌, ◌++◌, map, length, Some, None, Option, ◌==◌, ◌≢◌}
use Rattle.std.specs.List.{slice_get}
use Rattle.semantics.specs.Orders.{Holds, put, Relation, Strict}
use Rattle.semantics.specs.Plans.{at_task, both_primitive, Linked, linked_order, with_link}
use Rattle.semantics.specs.Tasks.{Labelled, Task}
use Rattle.semantics.specs.declared.link.Link.{Link}

-- A method: its task, the tasks of its steps, its links, its own order, and where each need and each add of its task goes: a
-- step of the method and a label.
pub record Method : Type 0 where
  pub task : ℕ
  pub steps : List ℕ
  pub links : List Link
  pub before : Relation
  pub needs_go : ℕ → Option (ℕ × ℕ)
  pub adds_go : ℕ → Option (ℕ × ℕ)

-- a method of which nothing is told yet; its order is empty
abbrev pub blank : ℕ → Method
blank t = record { task = t; steps = []; links = []; before = λ x y. false; needs_go = λ j. None; adds_go = λ i. None }

-- a method with one step or pair more
abbrev pub step_of : Method → ℕ → Method
step_of m t = record { task = m.task; steps = m.steps ++ (t ∷ []); links = m.links; before = m.before; needs_go = m.needs_go; adds_go = m.adds_go }

abbrev pub order_of : Method → ℕ → ℕ → Method
order_of m a b = record { task = m.task; steps = m.steps; links = m.links; before = put m.before a b; needs_go = m.needs_go; adds_go = m.adds_go }

-- a method with one link more, which between primitive steps puts its producer before its consumer
abbrev pub link_of : List Task → Method → Link → Method
link_of ts m l = record {
  task = m.task;
  steps = m.steps;
  links = with_link m.links l;
  before = linked_order ts (map Some m.steps) m.before l;
  needs_go = m.needs_go;
  adds_go = m.adds_go;
}

-- the entries with one more, at k
abbrev pub entered : (ℕ → Option (ℕ × ℕ)) → ℕ → ℕ × ℕ → ℕ → Option (ℕ × ℕ)
entered go k e x = cond (x == k) (Some e) (go x)

-- a method with an entry for need j or add i of its task
abbrev pub need_entry : Method → ℕ → ℕ × ℕ → Method
need_entry m j e = record { task = m.task; steps = m.steps; links = m.links; before = m.before; needs_go = entered m.needs_go j e; adds_go = m.adds_go }

abbrev pub add_entry : Method → ℕ → ℕ × ℕ → Method
add_entry m i e = record { task = m.task; steps = m.steps; links = m.links; before = m.before; needs_go = m.needs_go; adds_go = entered m.adds_go i e }

-- the task of step a of a method
abbrev pub own_task_of : List Task → Method → ℕ → Option Task
own_task_of ts m a = at_task ts (slice_get (map Some m.steps) a)

-- A method fits its task, which is compound. Its steps are of other tasks than init and goal. Each need and each add of the task
-- goes to a need or an add of a step of the method that names the same fact. The two ends of each link name the same fact and are
-- two steps. The order is strict and between the method's own steps, and has the producer of each link between primitive steps
-- before its consumer.
pub record Fits (ts : List Task) (m : Method) : Type 0 where
  pub task : Task
  pub is_task : slice_get ts m.task ≡ Some task
  pub compound : task.primitive ≡ false
  pub tasks_known : (a t : ℕ) → slice_get m.steps a ≡ Some t → (u : Task) × (slice_get ts t ≡ Some u)
  pub plain_steps : (a t : ℕ) → slice_get m.steps a ≡ Some t → 2 ≤ t
  pub needs : (j f : ℕ) → Labelled task.needs j f
      → (a : ℕ) × (k : ℕ) × (u : Task) × (m.needs_go j ≡ Some (a, k)) × (own_task_of ts m a ≡ Some u) × Labelled u.needs k f
  pub adds : (i f : ℕ) → Labelled task.adds i f
      → (a : ℕ) × (k : ℕ) × (u : Task) × (m.adds_go i ≡ Some (a, k)) × (own_task_of ts m a ≡ Some u) × Labelled u.adds k f
  pub links : (l : Link) → Linked l m.links
      → (f : ℕ) × (u : Task) × (v : Task) × (own_task_of ts m l.producer ≡ Some u) × (own_task_of ts m l.consumer ≡ Some v)
      × Labelled u.adds l.add f × Labelled v.needs l.need f
  pub apart : (l : Link) → Linked l m.links → l.producer ≢ l.consumer
  pub ordered : (l : Link) → Linked l m.links → both_primitive ts (map Some m.steps) l ≡ true → Holds m.before l.producer l.consumer
  pub strict : Strict m.before
  pub own_steps : (a b : ℕ) → Holds m.before a b → (a < length m.steps) × (b < length m.steps)
