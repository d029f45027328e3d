use Rattle.order.specs.Copies.{RowCopied, Within}
use Rattle.order.proofs.keeper.Keeper.put_row.Given as goal

abbrev pub invariant-loop-b : goal.invariant-loop-b
invariant-loop-b g l =
    let m = g.Self.Keeper in
    Within (m.before l.initial.self) (m.before l.from) → RowCopied (m.before l.from) (m.before l.initial.self) l.a l.b (m.before l.self)
