use Rattle.std.proofs.Common.{List, sym, ap, ◌∙◌, inl, inr, ⊎_elim}
use Rattle.line.specs.declared.command.Command.TheVariants.{PutLink}
use Rattle.page.specs.Answers.{row}
use Rattle.semantics.specs.Causes.{first_of, told}
use Rattle.semantics.specs.OpenLines.{link_causes}
use Rattle.semantics.specs.States.{plan_link}
use Rattle.semantics.specs.Tasks.{Task}
use Rattle.plan.specs.Meaning.{plan}
use Rattle.checker.proofs.Stepping.{by_plan, draft_link_line, plan_link_line, PlanOpen}
use Rattle.checker.proofs.checker.Checker.put_link.Goals as goal
use Rattle.checker.specs.Meaning.{held}

pub returns-in-Initial : goal.returns-in-Initial
returns-in-Initial g c =
    let n = g.K.Keeper.CAPACITY in
    let h = held (g.K.Keeper.before c.args.self.now.keeper) c.args.self.now in
    let w = row c.put_link.result in
    let l = c.args.link in
    let open-now : PlanOpen h.domain.phase = ⊎_elim (λ e. inl (sym c.phase.ensures ∙ e)) (λ e. inr (sym c.phase.ensures ∙ e)) c.in-Initial.is in
    by_plan n h w (PutLink l.producer l.add l.consumer l.need) tt (plan_link h.domain.tasks h.plan l) (plan (g.K.Keeper.before c.put_link.new.keeper) c.put_link.new.self)
    (λ taken reached.
    let k = plan_link_line n h w l taken open-now in (
      c.put_link.ensures.answer reached.suits.room ∙ ap (λ (ts : List Task). first_of (link_causes ts h.plan.steps h.plan.links h.plan.before 256 l) 0) c.tasks.ensures ∙ k.0,
      k.1,
      c.put_link.ensures.after ∙ ap (λ (ts : List Task). told w (plan_link ts h.plan l) h.plan) c.tasks.ensures,
    ))

pub returns-in_default : goal.returns-in_default
returns-in_default g c =
    let n = g.K.Keeper.CAPACITY in
    let h = held (g.K.Keeper.before c.args.self.now.keeper) c.args.self.now in
    draft_link_line n h (row c.put_link-in_default.result) c.args.link _
    (⊎_elim (λ e. c.in_default.not-Initial (c.phase.ensures ∙ e)) (λ e. c.in_default.not-Refine (c.phase.ensures ∙ e)))
    c.put_link-in_default.ensures.answer c.put_link-in_default.ensures.after
