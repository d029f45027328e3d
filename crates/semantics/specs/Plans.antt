-- Plans: steps, causal links and order; when a plan is sound, when it is executable, and what a threat is.
use Rattle.std.specs.Prelude.{◌≡◌, ℕ, suc, Bool, true, false, cond, ◌&&◌, ◌||◌, ◌⊎◌, List, [], ◌∷◌, ◌++◌, Some, None, Option, ◌==◌, ◌≢◌}
use Rattle.std.specs.List.{slice_get}
use Rattle.semantics.specs.Orders.{Holds, In, put, Relation, Transitive}
use Rattle.semantics.specs.Tasks.{is_primitive, Labelled, Task}
use Rattle.semantics.specs.declared.link.Link.{Link}

-- A plan: at each step number given so far, the number of the step's task, or None once the step has left; the links; and
-- which step is before which. The next step number is the length of `steps`.
pub record Plan : Type 0 where
  pub steps : List (Option ℕ)
  pub links : List Link
  pub before : Relation

abbrev pub at_task : List Task → Option (Option ℕ) → Option Task
at_task ts None = None
at_task ts (Some None) = None
at_task ts (Some (Some t)) = slice_get ts t

-- the task of step s, if s is a present step
abbrev pub task_of : List Task → Plan → ℕ → Option Task
task_of ts p s = at_task ts (slice_get p.steps s)

-- the numbers of the steps that are present, where the first of these has the number k
abbrev pub present_from : ℕ → List (Option ℕ) → List ℕ
present_from k [] = []
present_from k (None ∷ os) = present_from (suc k) os
present_from k (Some t ∷ os) = k ∷ present_from (suc k) os

-- the present steps of a plan, rising
abbrev pub steps_of : Plan → List ℕ
steps_of p = present_from 0 p.steps

-- the link stands in the list
abbrev pub Linked : Link → List Link → Type 0
Linked l [] = ⊥
Linked l (m ∷ ms) = (l ≡ m) ⊎ Linked l ms

-- whether two links are equal in all four numbers
abbrev pub same_link : Link → Link → Bool
same_link k l = k.producer == l.producer && (k.add == l.add && (k.consumer == l.consumer && k.need == l.need))

abbrev pub has_link : Link → List Link → Bool
has_link l [] = false
has_link l (k ∷ ks) = same_link l k || has_link l ks

-- Links equal in all four numbers are one.
abbrev pub with_link : List Link → Link → List Link
with_link ls l = cond (has_link l ls) ls (ls ++ (l ∷ []))

abbrev pub with_links : List Link → List Link → List Link
with_links ls [] = ls
with_links ls (k ∷ ks) = with_links (with_link ls k) ks

-- whether step s, of these steps, has a primitive task, and whether both ends of a link have
abbrev pub primitive_at : List Task → List (Option ℕ) → ℕ → Bool
primitive_at ts ss s = is_primitive (at_task ts (slice_get ss s))

abbrev pub both_primitive : List Task → List (Option ℕ) → Link → Bool
both_primitive ts ss l = primitive_at ts ss l.producer && primitive_at ts ss l.consumer

-- the order after a link joins: between primitive steps it puts its producer before its consumer
abbrev pub linked_order : List Task → List (Option ℕ) → Relation → Link → Relation
linked_order ts ss R l = cond (both_primitive ts ss l) (put R l.producer l.consumer) R

-- A link fits a plan and protects the fact f: its ends are present steps, its labels name f at both, and between primitive
-- steps the producer is before the consumer.
pub record Protects (ts : List Task) (p : Plan) (l : Link) (f : ℕ) : Type 0 where
  pub giver : Task
  pub taker : Task
  pub gives : task_of ts p l.producer ≡ Some giver
  pub takes : task_of ts p l.consumer ≡ Some taker
  pub added : Labelled giver.adds l.add f
  pub needed : Labelled taker.needs l.need f
  pub ordered : giver.primitive ≡ true → taker.primitive ≡ true → Holds p.before l.producer l.consumer

-- Step s threatens the link l that protects f: another step than the link's ends, it deletes f, and it is neither before the
-- producer nor after the consumer.
pub record Threat (ts : List Task) (p : Plan) (l : Link) (f : ℕ) (s : ℕ) : Type 0 where
  pub task : Task
  pub is_step : task_of ts p s ≡ Some task
  pub deletes : In f task.deletes
  pub not_producer : s ≡ l.producer → ⊥
  pub not_consumer : s ≡ l.consumer → ⊥
  pub not_before : Holds p.before s l.producer → ⊥
  pub not_after : Holds p.before l.consumer s → ⊥

-- A sound plan: every link fits, the order is strict and relates present steps only, and every step has a task.
pub record Sound (ts : List Task) (p : Plan) : Type 0 where
  pub links_fit : (l : Link) → Linked l p.links → (f : ℕ) × Protects ts p l f
  pub never_itself : (a : ℕ) → Holds p.before a a → ⊥
  pub passes_on : Transitive p.before
  pub tasks_known : (s : ℕ) → In s (steps_of p) → (t : Task) × (task_of ts p s ≡ Some t)
  pub own_steps : (a b : ℕ) → Holds p.before a b → In a (steps_of p) × In b (steps_of p)

-- A framed plan: step 0 is init (task 0), step 1 is goal (task 1), init is before goal, and every other step is after init and
-- before goal.
pub record Framed (p : Plan) : Type 0 where
  pub init : slice_get p.steps 0 ≡ Some (Some 0)
  pub goal : slice_get p.steps 1 ≡ Some (Some 1)
  pub ends : Holds p.before 0 1
  pub between : (x : ℕ) → In x (steps_of p) → (x ≢ 0) → (x ≢ 1) → Holds p.before 0 x × Holds p.before x 1

-- Every step is primitive.
abbrev pub PrimitivePlan : List Task → Plan → Type 0
PrimitivePlan ts p = (s : ℕ) (t : Task) → task_of ts p s ≡ Some t → t.primitive ≡ true

-- need j of step s has a link
abbrev pub Supplied : Plan → ℕ → ℕ → Type 0
Supplied p s j = (l : Link) × Linked l p.links × (l.consumer ≡ s) × (l.need ≡ j)

-- A plan can be carried out: it is primitive, every need of every step has a link, and no link is threatened.
pub record Executable (ts : List Task) (p : Plan) : Type 0 where
  pub all_primitive : PrimitivePlan ts p
  pub all_linked : (s : ℕ) (t : Task) → task_of ts p s ≡ Some t → (j f : ℕ) → Labelled t.needs j f → Supplied p s j
  pub no_threat : (l : Link) (f : ℕ) → Linked l p.links → Protects ts p l f → (s : ℕ) → Threat ts p l f s → ⊥
