use Rattle.order.proofs.Marking.{Mapped}
use Rattle.order.specs.Marks.{pruned}
use Rattle.order.proofs.ordering.prune.Given as goal

abbrev pub invariant-loop-x : goal.invariant-loop-x
invariant-loop-x l = Mapped (pruned l.a) l.initial.rows l.rows l.x
