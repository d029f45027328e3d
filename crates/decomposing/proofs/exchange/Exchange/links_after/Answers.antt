use Rattle.std.proofs.Common.{rules, tests, of_calls}
use Rattle.std.proofs.lemmas.Iterator.{YieldsList-from_map, YieldsList-from_slice}
use Rattle.std.proofs.lemmas.Iterator.Adapters.{serves_from_places}
use Rattle.std.proofs.lemmas.Iterator.Consumers.{YieldsList-at, YieldsList-from_chain}
use Rattle.fixed.specs.Items.{items}
use Rattle.methods.specs.Meaning.{method}
use Rattle.semantics.specs.Decomposing.{passed_down, renumbered}
use Rattle.decomposing.specs.Exchanges.{first}
use Rattle.decomposing.proofs.Joins.{ends_at}
use Rattle.decomposing.proofs.exchange.Exchange.links_after.Goals as goal

pub joined-requires-clause-can : goal.joined-requires-clause-can
joined-requires-clause-can c =
    let own = c.links-2.result.now in (
      λ d. (tt, search of_calls),
      λ d. (tt, serves_from_places (YieldsList-from_slice own cc) (λ x q k. search (rules, tests)) (λ x i h e. let ends = ends_at own i x.now c.links-2.ensures.small h e in search (rules, tests))),
    )

pub returns : goal.returns
returns c =
    let e = c.args.self.now in
    let m = method e.method.now in
    let ls = items e.target.now.links in
    c.joined.ensures _ (YieldsList-from_chain
    (YieldsList-at c.chain.ensures.first (YieldsList-from_map _ (passed_down (first e) e.leaving m) (YieldsList-from_slice ls cc) c.map-passed.ensures.closure (λ x r q k. search (rules, tests))))
    (YieldsList-at c.chain.ensures.second (YieldsList-from_map _ (renumbered (first e)) (YieldsList-from_slice m.links cc) c.map-own.ensures.closure (λ x r q k. search (rules, tests))))
    c.chain.ensures.first_done c.chain.ensures.second_done).runs
