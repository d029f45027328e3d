use Rattle.std.proofs.Common.{arith}
use Rattle.std.proofs.lemmas.Bool.Decides.{nat_tests}
use Rattle.order.specs.Tables.{relation}
use Rattle.order.proofs.table.Table.before.Goals as goal
use Rattle.order.proofs.table.Table.before.Goals.{then-a-via-else-a+then-b, then-a-via-then-a}

pub returns-then-a : goal.returns-then-a
unfolding relation
returns-then-a g c = elim c.then-a.branch [ then-a-via-then-a w ↦ grind (arith, nat_tests, w.if-a) | then-a-via-else-a+then-b w ↦ grind (arith, nat_tests, w.if-b) ]

pub returns : goal.returns
unfolding relation
returns g c = grind (arith, nat_tests, c.marked.ensures)
