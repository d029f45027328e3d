use Rattle.std.proofs.Common.{◌≡◌, ℕ, take}
use Rattle.masks.specs.Bits.{bit}
use Rattle.order.specs.Stored.{leads}
use Rattle.order.proofs.pair_list.PairList.targets.Given as goal

abbrev pub invariant-loop-pair : goal.invariant-loop-pair
invariant-loop-pair l = (y : ℕ) → bit l.found y ≡ leads (take l.pair-index l.pair-items) l.a y
