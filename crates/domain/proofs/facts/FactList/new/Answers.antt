use Rattle.std.proofs.Common.{sym, ap, ◌∙◌, arith}
use Rattle.semantics.specs.Facts.{among}
use Rattle.masks.proofs.Bits.{bit_zero}
use Rattle.domain.proofs.facts.FactList.new.Goals as goal

pub invariant_of-result : goal.invariant_of-result
invariant_of-result c =
    let none = c.new.ensures in
    record { small = λ f h. let w : ⊥ = grind (arith, none) in absurd w; marked = λ f. bit_zero f ∙ sym (ap (among f) none) }
