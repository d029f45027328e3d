use Rattle.std.proofs.Common.{◌≡◌, ℕ, Bool, true, false, not, is_some, rules, arith}
use Rattle.std.proofs.lemmas.Iterator.{first_from_Range}
use Rattle.methods.proofs.Labels.{such_from}
use Rattle.methods.specs.Places.{going}
use Rattle.methods.proofs.entries.Entries.missing.Goals as goal

pub returns : goal.returns
returns c =
    let test : ℕ → Bool = λ k. not (is_some (going c.args.self.now k)) in
    such_from test 0 c.args.count c.args.count c.find.result (omega arith) (first_from_Range _ _ _ c.find.result (λ k. test k ≡ true) (λ k. test k ≡ false) c.find.ensures.ran (λ x q k. search rules) (λ x q k. search rules))
