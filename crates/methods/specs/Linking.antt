-- A method with a link more.
use Rattle.std.specs.Prelude.{Bool, cond}
use Rattle.semantics.specs.Methods.{Method}
use Rattle.semantics.specs.Orders.{put}
use Rattle.semantics.specs.Plans.{with_link}
use Rattle.semantics.specs.declared.link.Link.{Link}

-- `ordered`: both ends are primitive, and the producer is put before the consumer
abbrev pub linked_in : Method → Link → Bool → Method
linked_in m l ordered = record {
  task = m.task;
  steps = m.steps;
  links = with_link m.links l;
  before = cond ordered (put m.before l.producer l.consumer) m.before;
  needs_go = m.needs_go;
  adds_go = m.adds_go;
}
