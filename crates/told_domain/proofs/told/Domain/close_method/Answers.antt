use Rattle.std.proofs.Common.{◌≡◌, [], ◌∷◌, ◌++◌, sym, refl, ap}
use Rattle.fixed.specs.Items.{items}
use Rattle.page.specs.declared.answer.Row.{Row}
use Rattle.semantics.proofs.Drafting.{closed_fits}
use Rattle.domain.specs.Meaning.{tasks}
use Rattle.methods.specs.Meaning.{method}
use Rattle.told_domain.proofs.Keeping.{closed, held}
use Rattle.told_domain.proofs.told.Domain.close_method.Goals as goal

pub invariant_of-self-2 : goal.invariant_of-self-2
invariant_of-self-2 c =
    let self = c.args.self.now in
    let phase = c.in_ok-must_be_in.ensures.same refl in
    let stored : items c.push.new.self ≡ items self.list ++ (self.draft ∷ []) = c.in_ok-push.ensures.after in
    let free = ap (λ (r : Row). r.code) c.in_ok-close.ensures in
    let kept =
    closed self.phase (tasks self.known) (items self.list) (items c.push.new.self) self.draft phase stored
    (closed_fits (tasks self.known) (method self.draft) 0 (sym free)) (held self) in
    record { fitting = kept.fitting; drafting = kept.drafting; unused = kept.unused; room = kept.room }
