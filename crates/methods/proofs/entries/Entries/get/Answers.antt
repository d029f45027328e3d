use Rattle.std.proofs.Common.{None, sym, ap, ◌∙◌, arith}
use Rattle.std.proofs.lemmas.List.{get_or_past}
use Rattle.std.proofs.lemmas.Bool.Decides.{nat_tests}
use Rattle.std.specs.Option.{option_map}
use Rattle.methods.specs.Places.{going, place}
use Rattle.methods.proofs.entries.Entries.get.Goals as goal

pub returns-in_err-get : goal.returns-in_err-get
unfolding going
returns-in_err-get c =
    let self = c.args.self.now in
    ap (option_map place) (c.from_residual.ensures ∙ sym (get_or_past self.places c.args.label None (grind (arith, nat_tests, self.whole, c.in_err-get.ensures.lookup))))

pub returns : goal.returns
unfolding going
returns c = ap (option_map place) (c.in_ok-get.ensures.lookup.3.1 None)
