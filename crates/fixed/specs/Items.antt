-- What a list in an array holds.
use Rattle.std.specs.Prelude.{ℕ, List, take}
use Rattle.fixed.specs.declared.list.Fixed.{Fixed}

-- the things in its first places, as many as it counts
unfoldable pub items : {T : Type 0} {N : ℕ} → Fixed T N → List T
items f = take f.count f.slots
