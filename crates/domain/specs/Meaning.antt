-- What the values of the code mean, in the words of the rules.
use Rattle.std.specs.Prelude.{ℕ, Bool, true, false, List, map}
use Rattle.fixed.specs.Items.{items}
use Rattle.semantics.specs.Tasks as meant
use Rattle.domain.specs.declared.facts.FactList.{FactList}
use Rattle.domain.specs.declared.kind.Kind.{Kind}
use Rattle.domain.specs.declared.kind.Kind.TheVariants.{Primitive, Compound}
use Rattle.domain.specs.declared.task.Task.{Task}
use Rattle.domain.specs.declared.tasks.Tasks.{Tasks}

abbrev pub is_primitive_kind : Kind → Bool
is_primitive_kind Primitive = true
is_primitive_kind Compound = false

-- the facts of a list, by their labels
abbrev pub facts : FactList → List ℕ
facts l = items l.list

abbrev pub task : Task → meant.Task
task t = record { primitive = is_primitive_kind t.kind; needs = facts t.needs; adds = facts t.adds; deletes = facts t.deletes }

-- the tasks, by their numbers
abbrev pub tasks : Tasks → List meant.Task
tasks d = map task (items d.list)
