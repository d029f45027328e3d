use Rattle.std.proofs.Common.{map, Some}
use Rattle.fixed.specs.Items.{items}
use Rattle.page.specs.Answers.{row}
use Rattle.semantics.specs.Causes.{first_of}
use Rattle.semantics.specs.Methods.{link_of}
use Rattle.semantics.specs.OpenLines.{link_causes}
use Rattle.semantics.proofs.Drafting.{kept_link}
use Rattle.domain.specs.Meaning.{tasks}
use Rattle.methods.specs.Meaning.{method}
use Rattle.told_domain.proofs.Keeping.{draft_line, held}
use Rattle.told_domain.proofs.told.Domain.put_link.Goals as goal

pub invariant_of-self : goal.invariant_of-self
invariant_of-self c =
    let self = c.args.self.now in
    let ts = tasks self.known in
    let m = method self.draft in
    let by_rules = first_of (link_causes ts (map Some m.steps) m.links m.before 16 c.args.link) 0 in
    let kept =
    draft_line self.phase ts (items self.list) self.draft c.link.new.self (link_of ts m c.args.link) (row c.link.result) by_rules c.link.ensures.answer c.link.ensures.after (kept_link ts m c.args.link 0) (held self) in
    record { fitting = kept.fitting; drafting = kept.drafting; unused = kept.unused; room = kept.room }
