use Rattle.std.proofs.Common.{List, ◌∙◌, sym, ap, rules, tests}
use Rattle.std.proofs.lemmas.Iterator.{YieldsList-from_map, YieldsList-from_slice}
use Rattle.std.proofs.lemmas.Iterator.Adapters.{option_map_id}
use Rattle.std.proofs.lemmas.Iterator.Consumers.{YieldsList-at, YieldsList-from_filter, min_from_yields_List}
use Rattle.semantics.specs.declared.link.Link.{Link}
use Rattle.semantics.specs.PlanLines.{producer}
use Rattle.plan.proofs.Lowest.{goes, lowest_producer}
use Rattle.plan.proofs.plan.Plan.producer.Goals as goal

pub returns : goal.returns
returns c =
    let s = c.args.s in
    let j = c.args.j in
    let r = min_from_yields_List _ _ c.min.ensures.ran
    (YieldsList-from_map _ (λ (l : Link). l.producer)
    (YieldsList-at c.map.ensures.source (YieldsList-from_filter _ (goes s j) (YieldsList-from_slice c.links.result.now cc) c.filter.ensures.closure (λ x r q k. search (rules, tests))))
    c.map.ensures.closure (λ x r q k. search (rules, tests))) in
    sym (option_map_id c.min.result) ∙ r ∙ lowest_producer s j c.links.result.now ∙ ap (λ (ls : List Link). producer ls s j) c.links.ensures
