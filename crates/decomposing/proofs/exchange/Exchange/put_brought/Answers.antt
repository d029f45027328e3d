use Rattle.std.proofs.Common.{List, is_ok, ap, ◌∙◌}
use Rattle.domain.specs.Meaning.{tasks}
use Rattle.fixed.specs.Items.{items}
use Rattle.order.specs.Puts.{put_each}
use Rattle.plan.specs.Meaning.{given_steps}
use Rattle.semantics.specs.Decomposing.{link_pairs}
use Rattle.semantics.specs.declared.link.Link.{Link}
use Rattle.decomposing.specs.Revising.{brought}
use Rattle.decomposing.proofs.Brings.{first_stops, last_ends, second_stops, third_stops}
use Rattle.order.proofs.Tries.{refused_as}
use Rattle.decomposing.proofs.exchange.Exchange.put_brought.Goals as goal

pub returns-in_err-put_inherited : goal.returns-in_err-put_inherited
returns-in_err-put_inherited g c =
    let keeper = g.K.Keeper in
    let n = keeper.CAPACITY in
    let ts = tasks c.args.known.now in
    let R = keeper.before c.args.keeper.now in
    let e = c.args.self.now in
    let ss = given_steps c.args.after.now.steps in
    let ls = items c.args.after.now.links in
    let start = keeper.before c.args.next.now in
    let A = keeper.before c.put_inherited.new.next in
    refused_as n start A (brought ts R e ss ls) c.from_residual.result c.from_residual.ensures.0 (first_stops n ts R e ss ls start A c.in_err-put_inherited.ensures)

pub returns-in_err-put_inherited-2 : goal.returns-in_err-put_inherited-2
returns-in_err-put_inherited-2 g c =
    let keeper = g.K.Keeper in
    let n = keeper.CAPACITY in
    let ts = tasks c.args.known.now in
    let R = keeper.before c.args.keeper.now in
    let e = c.args.self.now in
    let ss = given_steps c.args.after.now.steps in
    let ls = items c.args.after.now.links in
    let start = keeper.before c.args.next.now in
    let A = keeper.before c.put_inherited.new.next in
    let B = keeper.before c.put_inherited-2.new.next in
    let end = c.from_residual-in_err-put_inherited-2 in
    refused_as n start B (brought ts R e ss ls) end.result end.ensures.0 (second_stops n ts R e ss ls start A c.in_ok-put_inherited.ensures B c.in_err-put_inherited-2.ensures)

pub returns-in_err-put_own : goal.returns-in_err-put_own
returns-in_err-put_own g c =
    let keeper = g.K.Keeper in
    let n = keeper.CAPACITY in
    let ts = tasks c.args.known.now in
    let R = keeper.before c.args.keeper.now in
    let e = c.args.self.now in
    let ss = given_steps c.args.after.now.steps in
    let ls = items c.args.after.now.links in
    let start = keeper.before c.args.next.now in
    let A = keeper.before c.put_inherited.new.next in
    let B = keeper.before c.put_inherited-2.new.next in
    let C = keeper.before c.put_own.new.next in
    let end = c.from_residual-in_err-put_own in
    refused_as n start C (brought ts R e ss ls) end.result end.ensures.0 (third_stops n ts R e ss ls start A c.in_ok-put_inherited.ensures B c.in_ok-put_inherited-2.ensures C c.in_err-put_own.ensures)

pub returns : goal.returns
returns g c =
    let keeper = g.K.Keeper in
    let n = keeper.CAPACITY in
    let ts = tasks c.args.known.now in
    let R = keeper.before c.args.keeper.now in
    let e = c.args.self.now in
    let ss = given_steps c.args.after.now.steps in
    let ls = items c.args.after.now.links in
    let start = keeper.before c.args.next.now in
    let A = keeper.before c.put_inherited.new.next in
    let B = keeper.before c.put_inherited-2.new.next in
    let C = keeper.before c.put_own.new.next in
    let D = keeper.before c.put_links.new.next in
    let links = c.put_links.ensures ∙ ap (λ (ks : List Link). put_each n C (link_pairs ts ss ks)) c.as_slice.ensures in
    last_ends n ts R e ss ls start A c.in_ok-put_inherited.ensures B c.in_ok-put_inherited-2.ensures C D (is_ok c.put_links.result) c.in_ok-put_own.ensures links
