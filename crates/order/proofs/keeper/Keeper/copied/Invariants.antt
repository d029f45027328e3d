use Rattle.order.proofs.Copying.{RowsCopied}
use Rattle.order.proofs.keeper.Keeper.copied.Given as goal

abbrev pub invariant-loop-a : goal.invariant-loop-a
invariant-loop-a g l = let m = g.Self.Keeper in RowsCopied (m.before l.self) l.a (m.before l.copy)
