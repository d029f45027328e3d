use Rattle.std.proofs.Common.{◌≡◌, ℕ, ◌^◌, ◌||◌, eqb, [], ◌∷◌, ◌++◌, ap, ◌∙◌, arith, rules}
use lib.Bits.{bit_or}
use Rattle.fixed.specs.Items.{items}
use Rattle.masks.specs.Bits.{bit}
use Rattle.masks.proofs.Bits.{bit-or, bit_pow}
use Rattle.domain.proofs.Lists.{among_push}
use Rattle.domain.proofs.facts.FactList.push.Goals as goal

pub invariant_of-self : goal.invariant_of-self
invariant_of-self c =
    let self = c.args.self.now in
    let kept : items c.push.new.self ≡ items self.list = search rules in
    record {
      small = λ g h. let s = self.small g in grind (arith, kept);
      marked = λ g. let s = self.marked g in grind (arith, kept);
    }

pub invariant_of-self-2 : goal.invariant_of-self-2
invariant_of-self-2 c =
    let self = c.args.self.now in
    let fact = c.args.fact in
    let more : items c.push.new.self ≡ items self.list ++ (fact ∷ []) = search rules in
    let joined : (g : ℕ) → bit (bit_or self.mask c.only.result) g ≡ (bit self.mask g || eqb fact g) =
    λ g. ap (λ m. bit (bit_or self.mask m) g) c.only.ensures ∙ bit-or self.mask (2 ^ fact) g ∙ ap (λ b. bit self.mask g || b) (bit_pow fact g) in
    record {
      small = λ g h. let p = among_push g (items self.list) fact in let s = self.small g in grind (arith, more, c.requires);
      marked = λ g. let p = among_push g (items self.list) fact in let s = self.marked g in let j = joined g in grind (arith, more);
    }
