use Rattle.std.proofs.Common.{◌-◌, ◌^◌, ◌<◌}
use Rattle.fixed.specs.Items.{items}
use Rattle.order.proofs.Reached.{Reaching}
use Rattle.order.proofs.pair_list.PairList.reach.Given as goal

abbrev pub invariant-loop-a : goal.invariant-loop-a
invariant-loop-a l = (l.seen < 2 ^ 64) × (l.followed < 2 ^ 64) × Reaching (items l.self.pairs) l.a l.seen l.followed

abbrev pub decreases-loop-a : goal.decreases-loop-a
decreases-loop-a l = 2 ^ 64 - l.followed
