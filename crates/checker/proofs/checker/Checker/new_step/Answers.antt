use Rattle.std.proofs.Common.{List, length, sym, ap, ◌∙◌}
use Rattle.line.specs.declared.command.Command.TheVariants.{NewStep}
use Rattle.page.specs.Answers.{row}
use Rattle.semantics.specs.Causes.{first_of}
use Rattle.semantics.specs.OpenLines.{step_causes}
use Rattle.semantics.specs.States.{plan_step}
use Rattle.semantics.specs.Tasks.{Task}
use Rattle.plan.specs.Meaning.{plan}
use Rattle.checker.proofs.Stepping.{by_plan, draft_step_line, plan_step_line}
use Rattle.checker.proofs.checker.Checker.new_step.Goals as goal
use Rattle.checker.specs.Meaning.{held}

pub returns-in-Initial : goal.returns-in-Initial
returns-in-Initial g c =
    let n = g.K.Keeper.CAPACITY in
    let h = held (g.K.Keeper.before c.args.self.now.keeper) c.args.self.now in
    let w = row c.new_step.result in
    let t = c.args.task in
    let e = c.new_step.ensures in
    by_plan n h w (NewStep t) tt (plan_step h.plan t) (plan (g.K.Keeper.before c.new_step.new.keeper) c.new_step.new.self)
    (λ taken reached. let l = plan_step_line n h w t taken (sym c.in-Initial.ensures) in (e.answer ∙ ap (λ (ts : List Task). first_of (step_causes ts (length h.plan.steps) n t) (length h.plan.steps)) c.tasks.ensures ∙ l.0, l.1, e.after reached.suits))

pub returns-in_default : goal.returns-in_default
returns-in_default g c =
    let n = g.K.Keeper.CAPACITY in
    let h = held (g.K.Keeper.before c.args.self.now.keeper) c.args.self.now in
    let w = row c.new_step-in_default.result in
    draft_step_line n h w c.args.task _ (λ p. c.in_default.not-Initial (c.phase.ensures ∙ p)) c.new_step-in_default.ensures.answer c.new_step-in_default.ensures.after
