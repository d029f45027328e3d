use Rattle.order.proofs.Marking.{Mapped}
use Rattle.order.specs.Marks.{grown}
use Rattle.order.proofs.ordering.join.Given as goal

abbrev pub invariant-loop-x : goal.invariant-loop-x
invariant-loop-x l = Mapped (grown l.a l.after) l.initial.rows l.rows l.x
