use Rattle.std.proofs.Common.{[], sym, ap, ◌∙◌, arith}
use Rattle.std.proofs.lemmas.Bool.{cond-true}
use Rattle.page.specs.Answers.{row}
use Rattle.page.specs.declared.answer.Row.{Row}
use Rattle.semantics.specs.Causes.{told as told_by}
use Rattle.semantics.specs.States.{next, opening_plan}
use Rattle.told_domain.specs.Domains.{parts}
use Rattle.visit.proofs.Domains.{of_domain_before, told_domain_of}
use Rattle.visit.specs.Sessions.{before_plan, domain_of, state}
use Rattle.visit.proofs.session.Session.carry_out.Goals as goal

pub returns-then-is_before_plan-clause-row : goal.returns-then-is_before_plan-clause-row
returns-then-is_before_plan-clause-row c =
    let d = parts c.args.self.now.domain in
    let told = c.carry_out.ensures.domain (of_domain_before d.phase c.args.command (grind arith)) in
    let row = told.answers 64 opening_plan [] in
    grind arith

pub returns-then-is_before_plan-clause-after : goal.returns-then-is_before_plan-clause-after
returns-then-is_before_plan-clause-after c =
    let d = parts c.args.self.now.domain in
    let told = c.carry_out.ensures.domain (of_domain_before d.phase c.args.command (grind arith)) in
    let is = told.answers 64 opening_plan [] in
    let w = row c.carry_out.result in
    let after = domain_of (next (state d) c.args.command) in
    sym (ap domain_of (told.leaves opening_plan [])) ∙ told_domain_of w (next (state d) c.args.command) (state d)
    ∙ ap (λ (v : Row). told_by v after d) is
    ∙ sym (cond-true (before_plan d.phase) _ _ (grind arith))
