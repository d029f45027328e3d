use Rattle.std.proofs.Common.{map, Some, ◌∙◌, arith}
use Rattle.page.specs.Answers.{refusal_row}
use Rattle.domain.specs.Meaning.{tasks}
use Rattle.links.proofs.Parts.{link_passed, link_refused}
use Rattle.methods.specs.Meaning.{method}
use Rattle.methods.proofs.method.Method.link.Goals as goal

pub returns-in_err-check_ends-clause-answer : goal.returns-in_err-check_ends-clause-answer
returns-in_err-check_ends-clause-answer c =
    let m = method c.args.self.now in
    let r = link_refused (tasks c.args.known.now) (map Some m.steps) m.links m.before 16 c.args.link m m (refusal_row c.in_err-check_ends.field-0.0) c.in_err-check_ends.ensures.refusal in
    grind (arith, r.0, c.from_residual.ensures)

pub returns-clause-answer : goal.returns-clause-answer
returns-clause-answer c =
    let m = method c.args.self.now in
    c.tie.ensures.answer ∙ link_passed (tasks c.args.known.now) (map Some m.steps) m.links m.before 16 c.args.link c.joins_primitive.result c.joins_primitive.ensures c.in_ok-check_ends.ensures.refusal
