use Rattle.std.proofs.Common.{◌≡◌, ◌++◌, map, take, Some}
use Rattle.plan.specs.Meaning.{given_steps}
use Rattle.decomposing.proofs.revising.append.Given as goal

abbrev pub invariant-loop-task : goal.invariant-loop-task
invariant-loop-task l = given_steps l.steps ≡ given_steps l.initial.steps ++ map Some (take l.task-index l.tasks)
