use Rattle.std.proofs.Common.{◌≡◌, drop}
use Rattle.order.specs.PairLists.{follows_from}
use Rattle.order.specs.Stored.{onward, put_some}
use Rattle.order.proofs.pair_list.PairList.keep_onward.Given as goal

abbrev pub invariant-loop-pair : goal.invariant-loop-pair
invariant-loop-pair l =
    put_some 32 (follows_from l.rest) (onward l.a l.x (drop l.pair-index l.pair-items)) ≡ put_some 32 (follows_from l.initial.rest) (onward l.a l.x l.pair-items)
