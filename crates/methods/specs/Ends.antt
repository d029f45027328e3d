-- The ends of a method's links.
use Rattle.std.specs.Prelude.{◌<◌, List}
use Rattle.semantics.specs.Plans.{Linked}
use Rattle.semantics.specs.declared.link.Link.{Link}

-- both ends of each link are numbers below 8
abbrev pub SmallEnds : List Link → Type 0
SmallEnds ls = (l : Link) → Linked l ls → (l.producer < 8) × (l.consumer < 8)
