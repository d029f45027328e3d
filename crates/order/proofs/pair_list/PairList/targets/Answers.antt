use Rattle.std.proofs.Common.{◌≡◌, ℕ, ◌<◌, List, get_or, length, take, sym, subst, arith}
use Rattle.std.proofs.lemmas.List.{take_more}
use Rattle.masks.specs.Bits.{bit}
use Rattle.order.specs.PairLists.{list_stored}
use Rattle.order.specs.Stored.{leads}
use Rattle.order.proofs.Reached.{targets_more, targets_none}
use Rattle.order.proofs.Room.{stored_small}
use Rattle.order.proofs.pair_list.PairList.targets.Goals as goal

pub loop-pair-init : goal.loop-pair-init
loop-pair-init c = targets_none c.args.a

pub with_target-found-requires : goal.with_target-found-requires
with_target-found-requires c =
    let i = c.loop-pair.pair-index in
    let Low : List (ℕ × ℕ) → Type 0 = λ ps. i < length ps → (get_or ps i (0, 0)).1 < 32 in
    let low : Low c.as_slice-pair-items.result.now =
    subst Low (sym c.as_slice-pair-items.ensures) (λ l. (stored_small _ (list_stored c.args.self.now) i l).1) in
    let l = low c.loop-pair-test.true in
    omega arith

pub loop-pair-preserved : goal.loop-pair-preserved
loop-pair-preserved c =
    let ps = c.as_slice-pair-items.result.now in
    let i = c.loop-pair.pair-index in
    subst (λ (l : List (ℕ × ℕ)). (y : ℕ) → bit c.with_target-found.result y ≡ leads l c.args.a y) (sym (take_more ps i (0, 0) c.loop-pair-test.true))
    (targets_more (take i ps) (get_or ps i (0, 0)) c.loop-pair.found c.with_target-found.result c.args.a c.loop-pair.invariant c.with_target-found.ensures)
