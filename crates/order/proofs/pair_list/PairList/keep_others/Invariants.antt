use Rattle.std.proofs.Common.{◌≡◌, drop}
use Rattle.order.specs.PairLists.{follows_from}
use Rattle.order.specs.Stored.{others, put_some}
use Rattle.order.proofs.pair_list.PairList.keep_others.Given as goal

abbrev pub invariant-loop-pair : goal.invariant-loop-pair
invariant-loop-pair l =
    put_some 32 (follows_from l.rest) (others l.a (drop l.pair-index l.pair-items)) ≡ put_some 32 (follows_from l.initial.rest) (others l.a l.pair-items)
