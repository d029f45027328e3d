use Rattle.std.proofs.Common.{ap, ◌∙◌, rules, tests}
use Rattle.std.proofs.lemmas.Iterator.{YieldsList-from_map, YieldsList-from_slice}
use Rattle.std.proofs.lemmas.Iterator.Consumers.{YieldsList-at, YieldsList-from_filter}
use Rattle.domain.specs.Meaning.{tasks}
use Rattle.order.specs.Puts.{put_each}
use Rattle.plan.specs.Meaning.{given_steps}
use Rattle.semantics.specs.Plans.{both_primitive}
use Rattle.semantics.specs.declared.link.Link.{Link}
use Rattle.decomposing.proofs.Pairs.{linked_pairs}
use Rattle.decomposing.proofs.joining.put_links.Goals as goal

pub returns : goal.returns
returns g c =
    let keeper = g.K.Keeper in
    let ts = tasks c.args.known.now in
    let ss = given_steps c.args.steps.now in
    let ls = c.args.links.now in
    c.put_each.ensures _ (YieldsList-from_map _ (λ (l : Link). (l.producer, l.consumer))
    (YieldsList-at c.map.ensures.source (YieldsList-from_filter _ (both_primitive ts ss) (YieldsList-from_slice ls cc) c.filter-ordering.ensures.closure (λ x b q k. search (rules, tests))))
    c.map.ensures.closure (λ x r q k. search (rules, tests))).runs
    ∙ ap (put_each keeper.CAPACITY (keeper.before c.args.next.now)) (linked_pairs ts ss ls)
