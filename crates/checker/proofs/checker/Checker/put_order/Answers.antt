use Rattle.std.proofs.Common.{sym, ap, ◌∙◌, inl, inr, ⊎_elim}
use Rattle.line.specs.declared.command.Command.TheVariants.{PutOrder}
use Rattle.page.specs.Answers.{row}
use Rattle.semantics.specs.Orders.{put, Relation}
use Rattle.semantics.specs.States.{plan_order}
use Rattle.plan.specs.Meaning.{plan}
use Rattle.checker.proofs.Stepping.{by_plan, draft_order_line, plan_order_line, PlanOpen, told_before}
use Rattle.checker.proofs.checker.Checker.put_order.Goals as goal
use Rattle.checker.specs.Meaning.{held}

pub returns-in-Initial : goal.returns-in-Initial
returns-in-Initial g c =
    let n = g.K.Keeper.CAPACITY in
    let h = held (g.K.Keeper.before c.args.self.now.keeper) c.args.self.now in
    let w = row c.put_order.result in
    let a = c.args.earlier in
    let b = c.args.later in
    let before = h.plan.before in
    let open-now : PlanOpen h.domain.phase = ⊎_elim (λ e. inl (sym c.phase.ensures ∙ e)) (λ e. inr (sym c.phase.ensures ∙ e)) c.in-Initial.is in
    by_plan n h w (PutOrder a b) tt (plan_order h.plan a b) (plan (g.K.Keeper.before c.put_order.new.keeper) c.args.self.now.plan)
    (λ taken reached.
    let l = plan_order_line n h w a b taken open-now in (
      c.put_order.ensures.answer reached.suits.room ∙ l.0,
      l.1,
      ap (λ (R : Relation). plan R c.args.self.now.plan) c.put_order.ensures.after ∙ told_before w h.plan.steps h.plan.links before (put before a b),
    ))

pub returns-in_default : goal.returns-in_default
returns-in_default g c =
    let n = g.K.Keeper.CAPACITY in
    let h = held (g.K.Keeper.before c.args.self.now.keeper) c.args.self.now in
    draft_order_line n h (row c.put_order-in_default.result) c.args.earlier c.args.later _
    (⊎_elim (λ e. c.in_default.not-Initial (c.phase.ensures ∙ e)) (λ e. c.in_default.not-Refine (c.phase.ensures ∙ e)))
    c.put_order-in_default.ensures.answer c.put_order-in_default.ensures.after
