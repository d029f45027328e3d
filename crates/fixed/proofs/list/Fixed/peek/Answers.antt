use Rattle.std.proofs.Common.{◌≡◌, true, ltb, length, ap, arith}
use Rattle.std.proofs.lemmas.List.{length-take-le}
use Rattle.std.proofs.lemmas.Bool.{ltb-true}
use Rattle.fixed.specs.Items.{items}
use Rattle.fixed.proofs.list.Fixed.peek.Goals as goal

pub returns-clause-bound : goal.returns-clause-bound
unfolding items
returns-clause-bound g c h =
    let self = c.args.self.now in
    let held = length-take-le self.count self.slots (omega (arith, self.whole, self.within)) in
    let test : ltb c.args.i (length c.as_slice.result.now) ≡ true = cc in
    omega (arith, self.within, ltb-true c.args.i (length c.as_slice.result.now) test, ap length c.as_slice.ensures)
