use Rattle.std.proofs.Common.{◌≡◌, None, ◌∙◌, arith, rules}
use Rattle.page.specs.Answers.{row}
use Rattle.semantics.specs.States.{plan_link}
use Rattle.links.proofs.Parts.{link_passed, link_refused, steps_passed}
use Rattle.links.specs.Parts.{end_causes, first_cause}
use Rattle.domain.specs.Meaning.{tasks}
use Rattle.plan.specs.Meaning.{plan}
use Rattle.plan.proofs.Present.{step_given}
use Rattle.plan.proofs.plan.Plan.put_link.Goals as goal

pub returns-in_err-check_ends-clause-answer : goal.returns-in_err-check_ends-clause-answer
returns-in_err-check_ends-clause-answer g c = λ room.
    let ts = tasks c.args.known.now in
    let p = plan (g.K.Keeper.before c.args.keeper.now) c.args.self.now in
    (link_refused ts p.steps p.links p.before 256 c.args.link (plan_link ts p c.args.link) p (row c.from_residual.result) (search rules)).0

pub returns-clause-answer : goal.returns-clause-answer
returns-clause-answer g c = λ room.
    let ts = tasks c.args.known.now in
    let l = c.args.link in
    let p = plan (g.K.Keeper.before c.args.keeper.now) c.args.self.now in
    let ordered = c.has_primitive_ends-ordered in
    let none : None ≡ first_cause (end_causes ts p.steps l) = search rules in
    let there = steps_passed ts p.steps p.links p.before 256 l none in
    let first = step_given p.steps l.producer there.0 in
    let second = step_given p.steps l.consumer there.1 in
    c.tie.ensures.answer (omega arith) (omega arith) ∙ link_passed ts p.steps p.links p.before 256 l ordered.result ordered.ensures none
