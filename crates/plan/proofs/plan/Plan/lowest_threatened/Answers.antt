use Rattle.std.proofs.Common.{◌≡◌, filter, ◌∙◌, ap, rules, tests}
use Rattle.std.proofs.lemmas.Iterator.{YieldsList-from_slice}
use Rattle.std.proofs.lemmas.Iterator.Consumers.{YieldsList-at, YieldsList-from_copied, YieldsList-from_filter}
use Rattle.std.specs.List.{reduce}
use Rattle.domain.specs.Meaning.{tasks}
use Rattle.semantics.specs.declared.link.Link.{Link}
use Rattle.semantics.specs.PlanLines.{lowest_link, threatens}
use Rattle.plan.specs.Meaning.{plan}
use Rattle.plan.proofs.Lowest.{by_ends, lowest_passed, reduce_by_key}
use Rattle.plan.proofs.plan.Plan.lowest_threatened.Goals as goal

pub returns : goal.returns
returns g c =
    let test = threatens (tasks c.args.known.now) (plan (g.K.Keeper.before c.args.keeper.now) c.args.self.now) c.args.s in
    let e : c.min_by_key.result ≡ reduce by_ends (filter test c.links.result.now) = reduce_by_key _ _ (λ (l : Link). (l.producer, l.consumer)) (λ x k q h. search (rules, tests)) c.filter.result c.min_by_key.result _ c.min_by_key.ensures.ran
    (YieldsList-from_filter _ test (YieldsList-at c.filter.ensures.source (YieldsList-from_copied (YieldsList-from_slice c.links.result.now cc))) c.filter.ensures.closure (λ x r q k. search (rules, tests))) in
    e ∙ lowest_passed test c.links.result.now ∙ ap (lowest_link test) c.links.ensures
