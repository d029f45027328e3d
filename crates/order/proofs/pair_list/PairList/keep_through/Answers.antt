use Rattle.std.proofs.Common.{◌≡◌, ◌+◌, drop, sym, refl, subst}
use Rattle.fixed.specs.Items.{items}
use Rattle.order.specs.PairLists.{follows_from}
use Rattle.order.specs.Stored.{put_some, through}
use Rattle.order.proofs.Drops.{through_pass, through_turn}
use Rattle.order.proofs.pair_list.PairList.keep_through.Goals as goal
use Rattle.order.proofs.pair_list.PairList.keep_through.Goals.{else-to-a, then-to-a}
use Rattle.order.specs.declared.pair_list.PairList.{PairList}

pub loop-pair-preserved : goal.loop-pair-preserved
loop-pair-preserved c =
    let ps = c.as_slice-pair-items.result.now in
    let all = items c.args.self.now.pairs in
    let a = c.args.a in
    let i = c.loop-pair.pair-index in
    let R = follows_from c.loop-pair.rest in
    let whole = put_some 32 (follows_from c.args.rest.now) (through a all ps) in
    let Goal : PairList → Type 0 = λ k. put_some 32 (follows_from k) (through a all (drop (i + 1) ps)) ≡ whole in
    elim c.if-to-a.branch [
      | then-to-a w ↦
          subst Goal (sym w.rest-is) (through_turn R a ps i _ c.loop-pair-test.true refl whole all _ w.if-to-a.true w.keep_onward.ensures c.loop-pair.invariant)
      | else-to-a w ↦
          subst Goal (sym w.rest-is) (through_pass R a ps i _ c.loop-pair-test.true refl whole all w.if-to-a.false c.loop-pair.invariant)
    ]
