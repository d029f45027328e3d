use Rattle.std.proofs.Common.{◌≡◌, drop}
use Rattle.order.specs.Operations.{same_answers}
use Rattle.order.proofs.operation.agree.Given as goal

abbrev pub invariant-loop-operation : goal.invariant-loop-operation
invariant-loop-operation g l =
    let m = g.K.Keeper in
    let n = g.L.Keeper in
    same_answers m.CAPACITY n.CAPACITY (m.before l.one) (n.before l.other) (drop l.operation-index l.operations)
    ≡ same_answers m.CAPACITY n.CAPACITY (m.before l.initial.one) (n.before l.initial.other) l.operations
