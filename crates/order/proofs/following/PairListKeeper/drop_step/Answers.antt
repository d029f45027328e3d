use Rattle.std.proofs.Common.{ap, ◌∙◌}
use Rattle.fixed.specs.Items.{items}
use Rattle.order.specs.PairLists.{follows_from, list_order}
use Rattle.order.specs.Stored.{others, put_some, through}
use Rattle.order.proofs.Drops.{dropped_list}
use Rattle.order.proofs.following.PairListKeeper.drop_step.Goals as goal
use Rattle.semantics.specs.Orders.{Relation}

pub returns : goal.returns
unfolding follows_from
returns c =
    let me = c.args.self.now in
    let ps = items me.pairs in
    let a = c.args.a in
    c.keep_through.ensures
    ∙ ap (λ (R : Relation). put_some 32 R (through a ps ps)) (c.keep_others.ensures ∙ ap (λ (R : Relation). put_some 32 R (others a ps)) c.new-rest.ensures)
    ∙ dropped_list 32 ps (list_order me) a
