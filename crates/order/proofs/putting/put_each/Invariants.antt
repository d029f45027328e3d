use Rattle.std.proofs.Common.{ℕ, List}
use Rattle.std.specs.Iterator.{AlwaysYields}
use Rattle.order.specs.Puts.{put_each}
use Rattle.order.proofs.Handing.{Left}
use Rattle.order.proofs.putting.put_each.Given as goal

abbrev pub invariant-loop-a : goal.invariant-loop-a
invariant-loop-a g l =
    let keeper = g.K.Keeper in
    let gives = g.I.Iterator.next_gives in
    let put = put_each keeper.CAPACITY in
    (ps : List (ℕ × ℕ)) → AlwaysYields gives {B = ℕ × ℕ} (λ p. p) l.fn.pairs ps → Left gives put l.a-iterator (keeper.before l.keeper) (put (keeper.before l.fn.keeper) ps)
