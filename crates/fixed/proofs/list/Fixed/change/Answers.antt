use Rattle.std.proofs.Common.{arith}
use Rattle.std.proofs.lemmas.List.{length-take-le}
use Rattle.fixed.specs.Items.{items}
use Rattle.fixed.proofs.Fronts.{front_set}
use Rattle.fixed.proofs.list.Fixed.change.Goals as goal

pub returns-then-i-len : goal.returns-then-i-len
unfolding items
returns-then-i-len g c =
    let self = c.args.self.now in
    let held = length-take-le self.count self.slots (omega (arith, self.whole, self.within)) in
    let put = front_set self.slots self.count c.args.i c.args.x (omega (arith, c.len.ensures.value)) in
    cc
