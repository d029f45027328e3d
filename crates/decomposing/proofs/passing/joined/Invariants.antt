use Rattle.std.proofs.Common.{List, []}
use Rattle.std.specs.Iterator.{AlwaysYields}
use Rattle.fixed.specs.Items.{items}
use Rattle.semantics.specs.Plans.{with_links}
use Rattle.semantics.specs.declared.link.Link.{Link}
use Rattle.order.proofs.Handing.{Left}
use Rattle.decomposing.proofs.passing.joined.Given as goal

abbrev pub invariant-loop-link : goal.invariant-loop-link
invariant-loop-link g l =
    let gives = g.I.Iterator.next_gives in
    (ls : List Link) → AlwaysYields gives {B = Link} (λ k. k) l.fn.links ls → Left gives with_links l.link-iterator (items l.list) (with_links [] ls)
