-- What a fact is to a task, in the words of the rules.
use Rattle.std.specs.Prelude.{ℕ, Bool, not, ◌||◌, List, Option, ◌==◌}
use Rattle.semantics.specs.Causes.{Cause}
use Rattle.semantics.specs.TaskLines.{add_causes, delete_causes, need_causes, tasks_with_add, tasks_with_delete, tasks_with_need}
use Rattle.semantics.specs.Tasks as meant
use Rattle.semantics.specs.Tasks.{adds_of, deletes_of, needs_of, with_add, with_delete, with_need}
use Rattle.domain.specs.declared.role.Role.{Role}
use Rattle.domain.specs.declared.role.Role.TheVariants.{Add, Delete, Need}

-- the facts in that role of a task that may be none
abbrev pub facts_of : Role → Option meant.Task → List ℕ
facts_of Need t = needs_of t
facts_of Add t = adds_of t
facts_of Delete t = deletes_of t

-- a fact ends the list of its role
abbrev pub with_fact : Role → ℕ → meant.Task → meant.Task
with_fact Need f t = with_need f t
with_fact Add f t = with_add f t
with_fact Delete f t = with_delete f t

-- whether a fact can play the role in task t: init (0) has no needs, goal (1) no adds, and neither they nor compound tasks deletes
abbrev pub may_play : Role → ℕ → meant.Task → Bool
may_play Need t x = not (t == 0)
may_play Add t x = not (t == 1)
may_play Delete t x = not (t == 0 || (t == 1 || not x.primitive))

-- the causes of N, A or D, and the tasks after it
abbrev pub append_causes : Role → List meant.Task → ℕ → ℕ → List Cause
append_causes Need ts t f = need_causes ts t f
append_causes Add ts t f = add_causes ts t f
append_causes Delete ts t f = delete_causes ts t f

abbrev pub tasks_with_fact : Role → ℕ → ℕ → List meant.Task → List meant.Task
tasks_with_fact Need t f ts = tasks_with_need t f ts
tasks_with_fact Add t f ts = tasks_with_add t f ts
tasks_with_fact Delete t f ts = tasks_with_delete t f ts
