use Rattle.std.proofs.Common.{arith}
use Rattle.std.proofs.lemmas.List.{length-take-le}
use Rattle.fixed.specs.Items.{items}
use Rattle.fixed.proofs.list.Fixed.len.Goals as goal

pub returns : goal.returns
unfolding items
returns g c =
    let self = c.args.self.now in
    let held = length-take-le self.count self.slots (omega (arith, self.whole, self.within)) in
    record { value = omega arith; bound = omega (arith, self.within) }
