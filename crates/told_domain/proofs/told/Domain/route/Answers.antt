use Rattle.fixed.specs.Items.{items}
use Rattle.page.specs.Answers.{row}
use Rattle.semantics.specs.Causes.{first_of}
use Rattle.domain.specs.Meaning.{tasks}
use Rattle.methods.specs.Meaning.{method}
use Rattle.methods.specs.Sides.{entry_causes, with_entry}
use Rattle.told_domain.proofs.Keeping.{draft_line, held, kept_entry}
use Rattle.told_domain.proofs.told.Domain.route.Goals as goal

pub invariant_of-self : goal.invariant_of-self
invariant_of-self c =
    let self = c.args.self.now in
    let ts = tasks self.known in
    let m = method self.draft in
    let by_rules = first_of (entry_causes c.args.side ts m c.args.from c.args.step c.args.label) 0 in
    let kept =
    draft_line self.phase ts (items self.list) self.draft c.route.new.self (with_entry c.args.side m c.args.from (c.args.step, c.args.label)) (row c.route.result) by_rules c.route.ensures.answer c.route.ensures.after (kept_entry c.args.side ts m c.args.from c.args.step c.args.label) (held self) in
    record { fitting = kept.fitting; drafting = kept.drafting; unused = kept.unused; room = kept.room }
