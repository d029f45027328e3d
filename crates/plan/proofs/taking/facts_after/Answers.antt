use Rattle.std.proofs.Common.{◌-◌, Bool, not, ◌&&◌, ◌||◌, ap, ◌∙◌, ap₂}
use lib.Bits.{bit_and}
use Rattle.masks.specs.Bits.{bit}
use Rattle.masks.proofs.Bits.{bit_and_not, bit_below, bit-or}
use Rattle.semantics.specs.Facts.{among}
use Rattle.plan.proofs.taking.facts_after.Goals as goal

pub returns : goal.returns
returns c f =
    let facts = c.args.facts in
    let gone = c.mask-2.result in
    bit-or c.mask.result (bit_and facts (18446744073709551615 - gone)) f
    ∙ ap₂ ◌||◌
    (c.mask.ensures f ∙ ap (among f) c.adds.ensures)
    (bit_and_not facts gone f c.mask-2.type_inv (bit_below facts f c.ranges.facts.fits) ∙ ap (λ (b : Bool). bit facts f && not b) (c.mask-2.ensures f ∙ ap (among f) c.deletes.ensures))
