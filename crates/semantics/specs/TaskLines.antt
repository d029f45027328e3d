-- The lines that tell tasks: their causes after the phase, the number that they answer, and what they leave.
use Rattle.std.specs.Prelude.{ℕ, Bool, not, ◌||◌, List, [], ◌∷◌, ◌++◌, length, ◌==◌, nat_le, nat_lt}
use Rattle.std.specs.List.{slice_get}
use Rattle.semantics.specs.Tasks.{Task, bare, with_need, with_add, with_delete, changed, needs_of, adds_of, deletes_of, is_primitive}
use Rattle.semantics.specs.Causes.{Cause, when, nameless}

-- P and C: at most 32 tasks
abbrev pub task_causes : List Task → List Cause
task_causes ts = (10, when (nat_le 32 (length ts))) ∷ []

-- field 1 names a task, and field 2 a fact, 0 to 63
abbrev pub task_and_fact : List Task → ℕ → ℕ → List Bool
task_and_fact ts t f = nat_lt t (length ts) ∷ nat_lt f 64 ∷ []

-- N: init (0) has no needs; at most 32
abbrev pub need_causes : List Task → ℕ → ℕ → List Cause
need_causes ts t f =
    (6, nameless 1 (task_and_fact ts t f))
    ∷ (7, when (t == 0))
    ∷ (10, when (nat_le 32 (length (needs_of (slice_get ts t)))))
    ∷ []

-- A: goal (1) has no adds; at most 32
abbrev pub add_causes : List Task → ℕ → ℕ → List Cause
add_causes ts t f =
    (6, nameless 1 (task_and_fact ts t f))
    ∷ (7, when (t == 1))
    ∷ (10, when (nat_le 32 (length (adds_of (slice_get ts t)))))
    ∷ []

-- D: init, goal and compound tasks have no deletes; at most 32
abbrev pub delete_causes : List Task → ℕ → ℕ → List Cause
delete_causes ts t f =
    (6, nameless 1 (task_and_fact ts t f))
    ∷ (7, when (t == 0 || (t == 1 || not (is_primitive (slice_get ts t)))))
    ∷ (10, when (nat_le 32 (length (deletes_of (slice_get ts t)))))
    ∷ []

-- the tasks after an accepted P or C, N, A or D
abbrev pub tasks_with_task : Bool → List Task → List Task
tasks_with_task primitive ts = ts ++ (bare primitive ∷ [])

abbrev pub tasks_with_need : ℕ → ℕ → List Task → List Task
tasks_with_need t f ts = changed (with_need f) t ts

abbrev pub tasks_with_add : ℕ → ℕ → List Task → List Task
tasks_with_add t f ts = changed (with_add f) t ts

abbrev pub tasks_with_delete : ℕ → ℕ → List Task → List Task
tasks_with_delete t f ts = changed (with_delete f) t ts
