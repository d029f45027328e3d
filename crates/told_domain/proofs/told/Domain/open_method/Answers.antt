use Rattle.std.proofs.Common.{◌≡◌, ◌<◌, length, sym, subst, arith}
use Rattle.std.proofs.lemmas.List.{length-map}
use Rattle.fixed.specs.Items.{items}
use Rattle.semantics.specs.Causes.{first_of}
use Rattle.semantics.specs.Drafts.{Draft}
use Rattle.semantics.specs.OpenLines.{method_causes}
use Rattle.semantics.proofs.Drafting.{opened_draft}
use Rattle.domain.specs.Meaning.{tasks}
use Rattle.domain.proofs.Lists.{nth_there}
use Rattle.methods.specs.Meaning.{method}
use Rattle.told_domain.proofs.Keeping.{held, opened}
use Rattle.told_domain.proofs.told.Domain.open_method.Goals as goal

pub invariant_of-self : goal.invariant_of-self
invariant_of-self c =
    let self = c.args.self.now in
    let ts = tasks self.known in
    let there = nth_there ts c.args.task in
    let free : (first_of (method_causes ts c.len-number.result c.args.task) c.len-number.result).code ≡ 0 =
    grind (arith, there, c.task.ensures, c.in_ok-entry.ensures.value, c.if-is_primitive.ensures) in
    let few : length (items self.list) < 32 = omega (arith, c.len-number.ensures.value) in
    let kept =
    opened self.phase ts (items self.list) self.draft c.blank-self.result
    (subst (Draft ts) (sym c.blank-self.ensures) (opened_draft ts c.len-number.result c.args.task free)) few (held self) in
    record { fitting = kept.fitting; drafting = kept.drafting; unused = kept.unused; room = kept.room }

pub returns-clause-answer : goal.returns-clause-answer
returns-clause-answer c =
    let self = c.args.self.now in
    let there = nth_there (tasks self.known) c.args.task in
    let long = length-map (items self.list) method in
    grind (arith, there, long, c.in_ok-must_be_in.ensures.test, c.task.ensures, c.in_ok-entry.ensures.value, c.if-is_primitive.ensures, c.len-number.ensures.value)
