use Rattle.std.proofs.Common.{length, take, sym, arith}
use Rattle.std.proofs.lemmas.List.{length-take-le, take_more_set}
use Rattle.std.proofs.lemmas.Bool.{lt-ltb, le-ltb}
use Rattle.fixed.specs.Items.{items}
use Rattle.fixed.proofs.list.Fixed.push.Goals as goal

pub returns-then-self : goal.returns-then-self
unfolding items
returns-then-self g c =
    let self = c.args.self.now in
    let held = length-take-le self.count self.slots (omega (arith, self.whole, self.within)) in
    record { room = sym (le-ltb (length (take self.count self.slots)) g.row.N (omega arith)); after = cc }

pub returns : goal.returns
unfolding items
returns g c =
    let self = c.args.self.now in
    let held = length-take-le self.count self.slots (omega (arith, self.whole, self.within)) in
    let more = take_more_set self.slots self.count c.args.x (omega (arith, self.whole)) in
    record { room = sym (lt-ltb (length (take self.count self.slots)) g.row.N (omega arith)); after = cc }
