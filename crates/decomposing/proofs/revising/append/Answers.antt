use Rattle.std.proofs.Common.{length, ap, arith}
use Rattle.std.proofs.lemmas.Grind.{common_steps}
use Rattle.decomposing.proofs.Decides.{few_items}
use Rattle.decomposing.proofs.revising.append.Goals as goal

pub returns-clause-room : goal.returns-clause-room
returns-clause-room c = let few = few_items c.loop-task.steps.list in let long = ap length c.loop-task.invariant in grind (arith, common_steps)
