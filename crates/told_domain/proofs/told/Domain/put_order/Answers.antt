use Rattle.std.proofs.Common.{map, Some}
use Rattle.fixed.specs.Items.{items}
use Rattle.page.specs.Answers.{row}
use Rattle.semantics.specs.Causes.{first_of}
use Rattle.semantics.specs.Methods.{order_of}
use Rattle.semantics.specs.OpenLines.{order_causes}
use Rattle.semantics.proofs.Drafting.{kept_order}
use Rattle.domain.specs.Meaning.{tasks}
use Rattle.methods.specs.Meaning.{method}
use Rattle.told_domain.proofs.Keeping.{draft_line, held}
use Rattle.told_domain.proofs.told.Domain.put_order.Goals as goal

pub invariant_of-self : goal.invariant_of-self
invariant_of-self c =
    let self = c.args.self.now in
    let ts = tasks self.known in
    let m = method self.draft in
    let by_rules = first_of (order_causes (map Some m.steps) m.before c.args.earlier c.args.later) 0 in
    let kept =
    draft_line self.phase ts (items self.list) self.draft c.order.new.self (order_of m c.args.earlier c.args.later) (row c.order.result) by_rules c.order.ensures.answer c.order.ensures.after (kept_order ts m c.args.earlier c.args.later 0) (held self) in
    record { fitting = kept.fitting; drafting = kept.drafting; unused = kept.unused; room = kept.room }
