use Rattle.std.proofs.Common.{◌≡◌, length, true, false, Some, ◌∙◌, rules}
use Rattle.std.specs.List.{slice_get}
use Rattle.methods.specs.Meaning.{method}
use Rattle.page.specs.Answers.{as_row, row}
use Rattle.plan.specs.Meaning.{plan, present}
use Rattle.semantics.specs.PlanLines.{circular, too_many}
use Rattle.told_domain.specs.Domains.{parts}
use Rattle.decomposing.proofs.Decides.{by_circle}
use Rattle.decomposing.proofs.decomposing.decompose.Goals as goal

pub returns-in_err-next-clause-answer : goal.returns-in_err-next-clause-answer
returns-in_err-next-clause-answer g c =
    let n = g.K.Keeper.CAPACITY in
    let d = parts c.args.domain.now in
    let p = plan (g.K.Keeper.before c.args.keeper.now) c.args.target.now in
    let m = method c.in_ok-by.by.now in
    let is_step : Some c.in_ok-task.task ≡ present (slice_get p.steps c.args.s) = search rules in
    let is_method : Some m ≡ slice_get d.methods c.args.m = search rules in
    let same : c.in_ok-task.task ≡ m.task = search rules in
    let few : too_many n p c.args.s (Some m) ≡ false = search rules in
    let circle : circular d.tasks p c.args.s (Some m) ≡ true = search rules in
    let answer : row c.from_residual-in_err-next.result ≡ as_row 11 0 0 0 = search rules in
    answer ∙ by_circle n d.tasks d.methods p c.args.s c.args.m (length p.steps) c.in_ok-task.task is_step m is_method same few true circle

pub returns-clause-answer : goal.returns-clause-answer
returns-clause-answer g c =
    let n = g.K.Keeper.CAPACITY in
    let d = parts c.args.domain.now in
    let p = plan (g.K.Keeper.before c.args.keeper.now) c.args.target.now in
    let m = method c.in_ok-by.by.now in
    let is_step : Some c.in_ok-task.task ≡ present (slice_get p.steps c.args.s) = search rules in
    let is_method : Some m ≡ slice_get d.methods c.args.m = search rules in
    let same : c.in_ok-task.task ≡ m.task = search rules in
    let few : too_many n p c.args.s (Some m) ≡ false = search rules in
    let circle : circular d.tasks p c.args.s (Some m) ≡ false = search rules in
    let answer : as_row 0 c.first-number.result 0 0 ≡ as_row 0 (length p.steps) 0 0 = search rules in
    answer ∙ by_circle n d.tasks d.methods p c.args.s c.args.m (length p.steps) c.in_ok-task.task is_step m is_method same few false circle
