use Rattle.std.proofs.Common.{ℕ, ◌+◌, filter, is_ok, List, map, ap, ◌∙◌, rules, tests, arith}
use Rattle.std.specs.List.{flat_map, range_with_len}
use Rattle.std.proofs.lemmas.Iterator.{YieldsList-from_map, YieldsList-from_range}
use Rattle.std.proofs.lemmas.Iterator.Adapters.{YieldsList-from_flat_map}
use Rattle.std.proofs.lemmas.Iterator.Consumers.{YieldsList-from_filter}
use Rattle.methods.specs.Meaning.{method}
use Rattle.order.specs.Puts.{put_each}
use Rattle.semantics.specs.Decomposing.{pairs_among, shifted, upfrom}
use Rattle.decomposing.specs.Exchanges.{first}
use Rattle.decomposing.specs.Trying.{Tried}
use Rattle.decomposing.proofs.Pairs.{own_pairs}
use Rattle.decomposing.proofs.exchange.Exchange.put_own.Goals as goal

pub returns : goal.returns
returns g c =
    let keeper = g.K.Keeper in
    let e = c.args.self.now in
    let f = first e in
    let R = (method e.method.now).before in
    let k = c.count_steps-count.result in
    let pairs : ℕ → List (ℕ × ℕ) = λ (a : ℕ). map (λ (b : ℕ). (f + a, f + b)) (filter (R a) (range_with_len 0 k)) in
    let put : Tried keeper.CAPACITY (keeper.before c.args.next.now) (flat_map pairs (range_with_len 0 k)) (is_ok c.put_each.result) (keeper.before c.put_each.new.keeper) =
    c.put_each.ensures _ (YieldsList-from_flat_map _ _ _ (λ p. p) pairs _
    (λ a u q l. (search (rules, tests), λ j is. YieldsList-from_map _ (λ (b : ℕ). (f + a, f + b)) {f = (c.args.self, a)} (YieldsList-from_filter _ (R a) {f = (c.args.self, a)} (YieldsList-from_range 0 k k (search (rules, tests)) (omega arith)) (search (rules, tests)) (λ b r o m. search (rules, tests))) (search (rules, tests)) (λ b r o m. search (rules, tests))))
    (YieldsList-from_range 0 k k c.flat_map-own.ensures.source (omega arith))
    c.flat_map-own.ensures.closure c.flat_map-own.ensures.front c.flat_map-own.ensures.back c.flat_map-own.ensures.done).runs in
    put ∙ ap (put_each keeper.CAPACITY (keeper.before c.args.next.now)) (own_pairs f R k ∙ ap (λ n. shifted f (pairs_among R (upfrom 0 n) (upfrom 0 n))) c.count_steps-count.ensures.value)
