use Rattle.std.proofs.Common.{◌≡◌, ℕ, ◌+◌, ◌&&◌, filter, is_ok, map, length, ap, ◌∙◌, rules, tests, arith}
use Rattle.std.specs.List.{flat_map, range_with_len}
use Rattle.std.proofs.lemmas.Iterator.{YieldsList-from_map, YieldsList-from_range}
use Rattle.std.proofs.lemmas.Iterator.Adapters.{YieldsList-from_flat_map}
use Rattle.std.proofs.lemmas.Iterator.Consumers.{YieldsList-at, YieldsList-from_filter}
use Rattle.methods.specs.Meaning.{method}
use Rattle.order.specs.Puts.{put_each}
use Rattle.semantics.specs.OpenLines.{is_step}
use Rattle.semantics.specs.Plans.{present_from}
use Rattle.decomposing.specs.Exchanges.{beside, facing_pair, first, inherited, numbers, old_steps}
use Rattle.decomposing.specs.Trying.{Tried}
use Rattle.decomposing.proofs.Pairs.{inherited_pairs}
use Rattle.decomposing.proofs.exchange.Exchange.put_inherited.Goals as goal

pub returns : goal.returns
returns g c =
    let keeper = g.K.Keeper in
    let e = c.args.self.now in
    let d = c.args.side in
    let R = keeper.before c.args.keeper.now in
    let os = old_steps e in
    let count = length (method e.method.now).steps in
    let n = c.given.result in
    let olds = λ (x : ℕ). is_step os x && beside d R e.leaving x in
    let pairs = λ (x : ℕ). map (facing_pair d x) (range_with_len (first e) count) in
    let put : Tried keeper.CAPACITY (keeper.before c.args.next.now) (flat_map pairs (filter olds (range_with_len 0 n))) (is_ok c.put_each.result) (keeper.before c.put_each.new.keeper) =
    c.put_each.ensures _ (YieldsList-from_flat_map _ _ _ (λ p. p) pairs _
    (λ x u q k. (search (rules, tests), λ j is. YieldsList-from_map _ (facing_pair d x) {f = (d, x)} (YieldsList-from_range (first e) (first e + count) count (search (rules, tests)) (omega arith)) (search (rules, tests)) (λ y r o l. search (rules, tests))))
    (YieldsList-at c.flat_map-pairs.ensures.source (YieldsList-from_filter _ olds (YieldsList-from_range 0 n n c.filter-old.ensures.source (omega arith)) c.filter-old.ensures.closure (λ x b q k. search (rules, tests))))
    c.flat_map-pairs.ensures.closure c.flat_map-pairs.ensures.front c.flat_map-pairs.ensures.back c.flat_map-pairs.ensures.done).runs in
    let all : flat_map pairs (filter olds (range_with_len 0 n)) ≡ inherited d R e.leaving (present_from 0 os) (numbers e) =
    ap (λ k. flat_map pairs (filter olds (range_with_len 0 k))) c.given.ensures.value ∙ inherited_pairs d R e.leaving (first e) count os in
    put ∙ ap (put_each keeper.CAPACITY (keeper.before c.args.next.now)) all
