-- A method that is being told: what it has so far fits its task.
use Rattle.std.specs.Prelude.{◌≡◌, ℕ, ◌<◌, ◌≤◌, true, false, List, map, length, Some, ◌≢◌}
use Rattle.std.specs.List.{slice_get}
use Rattle.semantics.specs.Methods.{Method, own_task_of}
use Rattle.semantics.specs.Orders.{Holds, Strict}
use Rattle.semantics.specs.Plans.{both_primitive, Linked}
use Rattle.semantics.specs.Tasks.{Labelled, Task}
use Rattle.semantics.specs.declared.link.Link.{Link}

-- the two ends of a link of a method name one fact
abbrev pub OwnEnds : List Task → Method → Link → Type 0
OwnEnds ts m l = (f : ℕ) × (u : Task) × (v : Task) × (own_task_of ts m l.producer ≡ Some u) × (own_task_of ts m l.consumer ≡ Some v)
    × Labelled u.adds l.add f × Labelled v.needs l.need f

-- need j of the task goes to need k of step a, and add i to add k
abbrev pub NeedGoes : List Task → Method → Task → ℕ → ℕ × ℕ → Type 0
NeedGoes ts m t j e = (f : ℕ) × (u : Task) × (own_task_of ts m e.0 ≡ Some u) × Labelled u.needs e.1 f × Labelled t.needs j f

abbrev pub AddGoes : List Task → Method → Task → ℕ → ℕ × ℕ → Type 0
AddGoes ts m t i e = (f : ℕ) × (u : Task) × (own_task_of ts m e.0 ≡ Some u) × Labelled u.adds e.1 f × Labelled t.adds i f

-- The order of a method that is being told, and how its links keep to it.
pub record OwnOrder (ts : List Task) (m : Method) : Type 0 where
  pub apart : (l : Link) → Linked l m.links → l.producer ≢ l.consumer
  pub ordered : (l : Link) → Linked l m.links → both_primitive ts (map Some m.steps) l ≡ true → Holds m.before l.producer l.consumer
  pub strict : Strict m.before
  pub own_steps : (a b : ℕ) → Holds m.before a b → (a < length m.steps) × (b < length m.steps)

-- A method that is being told: what it has so far fits its task.
pub record Draft (ts : List Task) (m : Method) : Type 0 where
  pub task : Task
  pub is_task : slice_get ts m.task ≡ Some task
  pub compound : task.primitive ≡ false
  pub tasks_known : (a t : ℕ) → slice_get m.steps a ≡ Some t → (u : Task) × (slice_get ts t ≡ Some u)
  pub plain_steps : (a t : ℕ) → slice_get m.steps a ≡ Some t → 2 ≤ t
  pub needs : (j : ℕ) (e : ℕ × ℕ) → m.needs_go j ≡ Some e → NeedGoes ts m task j e
  pub adds : (i : ℕ) (e : ℕ × ℕ) → m.adds_go i ≡ Some e → AddGoes ts m task i e
  pub links : (l : Link) → Linked l m.links → OwnEnds ts m l
  pub order : OwnOrder ts m
