use Rattle.std.proofs.Common.{length}
use Rattle.fixed.specs.Items.{items}
use Rattle.page.specs.Answers.{row}
use Rattle.semantics.specs.Causes.{first_of}
use Rattle.semantics.specs.Methods.{step_of}
use Rattle.semantics.specs.OpenLines.{step_causes}
use Rattle.semantics.proofs.Drafting.{kept_step}
use Rattle.domain.specs.Meaning.{tasks}
use Rattle.methods.specs.Meaning.{method}
use Rattle.told_domain.proofs.Keeping.{draft_line, held}
use Rattle.told_domain.proofs.told.Domain.new_step.Goals as goal

pub invariant_of-self : goal.invariant_of-self
invariant_of-self c =
    let self = c.args.self.now in
    let ts = tasks self.known in
    let m = method self.draft in
    let by_rules = first_of (step_causes ts (length m.steps) 8 c.args.task) (length m.steps) in
    let kept =
    draft_line self.phase ts (items self.list) self.draft c.step.new.self (step_of m c.args.task) (row c.step.result) by_rules c.step.ensures.answer c.step.ensures.after (kept_step ts m c.args.task (length m.steps)) (held self) in
    record { fitting = kept.fitting; drafting = kept.drafting; unused = kept.unused; room = kept.room }
