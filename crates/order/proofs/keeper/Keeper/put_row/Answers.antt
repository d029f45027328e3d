use Rattle.std.proofs.Common.{◌+◌, sym, ◌∙◌, subst}
use Rattle.order.specs.Copies.{RowCopied, Within}
use Rattle.order.specs.Puts.{Order}
use Rattle.order.proofs.Copying.{row_put, row_skip}
use Rattle.order.proofs.keeper.Keeper.put_row.Goals as goal
use Rattle.order.proofs.keeper.Keeper.put_row.Goals.{else-before, then-before}

pub loop-b-preserved : goal.loop-b-preserved
loop-b-preserved g c =
    let m = g.Self.Keeper in
    let law = g.met.Self.Keeper in
    let order : (k : g.row.Self.Denot) → Order m.CAPACITY (m.before k) = λ k. record {
      strict = record { never_itself = law.never_itself k; passes_on = law.passes_on k };
      within = law.within k;
    } in
    let R = m.before c.args.from.now in
    let S = m.before c.args.self.now in
    let T = m.before c.loop-b.self in
    let a = c.args.a in
    let b = c.loop-b.b in
    let Goal : g.row.Self.Denot → Type 0 = λ k. Within S R → RowCopied R S a (b + 1) (m.before k) in
    elim c.if-before.branch [
      | then-before w ↦
          subst Goal (sym w.self-is)
          (λ sub. row_put m.CAPACITY R S a b (order c.args.from.now) T (c.loop-b.invariant sub) _ _ (order c.loop-b.self)
          (sym c.before-in-loop-b.ensures ∙ w.if-before.true) w.put.ensures.test w.put.ensures.after)
      | else-before w ↦
          subst Goal (sym w.self-is)
          (λ sub. row_skip m.CAPACITY R S a b (order c.args.from.now) T (c.loop-b.invariant sub) (sym c.before-in-loop-b.ensures ∙ w.if-before.false))
    ]
