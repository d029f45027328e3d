use Rattle.std.proofs.Common.{[], rules}
use Rattle.fixed.specs.Items.{items}
use Rattle.semantics.specs.Plans.{with_links}
use Rattle.order.proofs.Handing.{left_none}
use Rattle.decomposing.proofs.Joins.{join_more, join_stop}
use Rattle.decomposing.proofs.passing.joined.Goals as goal

pub loop-link-preserved : goal.loop-link-preserved
loop-link-preserved g c ls y =
    join_more g.I.Iterator.next_gives c.loop-link.link-iterator c.next.new.self (items c.loop-link.list) (with_links [] ls) c.in-Some.link (c.loop-link.invariant ls y) c.in-Some.ensures.steps
    (items c.try_join.new.links) c.in_ok-try_join.ensures.after

pub returns-in_err-try_join : goal.returns-in_err-try_join
returns-in_err-try_join g c ls y =
    let many = join_stop g.I.Iterator.next_gives c.loop-link.link-iterator c.next.new.self (items c.loop-link.list) (with_links [] ls) c.in-Some.link (c.loop-link.invariant ls y) c.in-Some.ensures.steps
    (search rules) in
    search rules

pub returns : goal.returns
returns g c ls y =
    left_none g.I.Iterator.next_gives with_links c.loop-link.link-iterator c.next.new.self (items c.loop-link.list) (with_links [] ls) (c.loop-link.invariant ls y) c.in-None.ensures.steps
