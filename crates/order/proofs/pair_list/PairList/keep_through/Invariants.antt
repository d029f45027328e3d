use Rattle.std.proofs.Common.{◌≡◌, drop}
use Rattle.fixed.specs.Items.{items}
use Rattle.order.specs.PairLists.{follows_from}
use Rattle.order.specs.Stored.{through, put_some}
use Rattle.order.proofs.pair_list.PairList.keep_through.Given as goal

abbrev pub invariant-loop-pair : goal.invariant-loop-pair
invariant-loop-pair l =
    put_some 32 (follows_from l.rest) (through l.a (items l.self.pairs) (drop l.pair-index l.pair-items)) ≡ put_some 32 (follows_from l.initial.rest) (through l.a (items l.self.pairs) l.pair-items)
