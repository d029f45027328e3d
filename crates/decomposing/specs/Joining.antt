-- Links that join an empty list one by one.
use Rattle.std.specs.Prelude.{◌≡◌, ◌<◌, List, length, Ok, Err, Result}
use Rattle.fixed.specs.Items.{items}
use Rattle.fixed.specs.declared.list.Fixed.{Fixed}
use Rattle.fixed.specs.declared.list.Full.{Full}
use Rattle.semantics.specs.declared.link.Link.{Link}

-- The list once all the links have joined, where there are at most 256 of them.
abbrev pub Joined : Result (Fixed Link 256) Full → List Link → Type 0
Joined (Ok list) all = items list ≡ all
Joined (Err full) all = 256 < length all
