use Rattle.std.proofs.Common.{refl}
use Rattle.fixed.specs.Items.{items}
use Rattle.fixed.proofs.list.Fixed.new.Goals as goal

pub returns : goal.returns
unfolding items
returns g c = refl
