use Rattle.std.proofs.Common.{sym, ◌∙◌}
use Rattle.std.proofs.lemmas.Bool.{cond-true, true≢false}
use Rattle.fixed.specs.Items.{items}
use Rattle.order.specs.Ordered.{free_from, put_already}
use Rattle.order.specs.PairLists.{follows_from, list_order, list_stored}
use Rattle.order.specs.Puts.{can_put}
use Rattle.order.proofs.Pushes.{pushed_put, pushed_stored}
use Rattle.order.proofs.pair_list.PairList.store.Goals as goal
use Rattle.semantics.specs.Orders.{put}

pub invariant_of-self : goal.invariant_of-self
unfolding follows_from
invariant_of-self c =
    let me = c.args.self.now in
    let free = free_from 32 (follows_from me) c.args.a c.args.b (sym c.if-not-can_put.ensures) in
    record {
      ok = ∣ pushed_stored (items me.pairs) (items c.push.new.self) (list_stored me) c.args.a c.args.b free (sym c.if-not-follows.ensures) _ c.push.ensures.room c.push.ensures.after ∣₁;
    }

pub returns-then-not-follows : goal.returns-then-not-follows
unfolding follows_from
returns-then-not-follows c =
    let me = c.args.self.now in
    let R = follows_from me in
    let can = c.if-not-can_put.ensures in
    let free = free_from 32 R c.args.a c.args.b (sym can) in
    record {
      test = can;
      after = pushed_put (items me.pairs) (items c.push.new.self) (list_stored me) c.args.a c.args.b free (sym c.if-not-follows.ensures) _ c.push.ensures.room c.push.ensures.after
          ∙ sym (cond-true (can_put 32 R c.args.a c.args.b) (put R c.args.a c.args.b) R (sym can));
      same = λ h. absurd (true≢false h);
    }

pub returns-else-not-follows : goal.returns-else-not-follows
returns-else-not-follows c =
    let me = c.args.self.now in
    let R = follows_from me in
    let can = c.if-not-can_put.ensures in
    record {
      test = can;
      after = put_already R c.args.a c.args.b (list_order me).strict.passes_on (sym c.if-not-follows.ensures)
          ∙ sym (cond-true (can_put 32 R c.args.a c.args.b) (put R c.args.a c.args.b) R (sym can));
      same = λ h. absurd (true≢false h);
    }
