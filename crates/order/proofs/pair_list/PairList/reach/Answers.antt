use Rattle.std.proofs.Common.{ℕ, ◌<◌, sym, subst, arith, lit<}
use lib.Bits.{bit_or}
use Rattle.std.proofs.lemmas.Nat.{or_lt}
use Rattle.fixed.specs.Items.{items}
use Rattle.masks.proofs.Bits.{or_more}
use Rattle.order.specs.PairLists.{follows_from}
use Rattle.order.proofs.Reached.{reached, Reaching, reaching_more, reaching_none, to_follow}
use Rattle.order.proofs.pair_list.PairList.reach.Goals as goal

pub loop-a-init : goal.loop-a-init
loop-a-init c =
    let ps = items c.args.self.now.pairs in
    (c.only-seen.type_inv, lit< tt, subst (λ (m : ℕ). Reaching ps c.args.a m 0) (sym c.only-seen.ensures) (reaching_none ps c.args.a))

pub loop-a-preserved : goal.loop-a-preserved
loop-a-preserved c =
    let ps = items c.args.self.now.pairs in
    let seen = c.loop-a.seen in
    let followed = c.loop-a.followed in
    let inv = c.loop-a.invariant in
    let step = c.lowest-step.result in
    let here = to_follow ps c.args.a seen followed inv.2 step inv.0 inv.1 c.lowest-step.ensures.has in (
      or_lt 64 seen c.targets-seen.result inv.0 c.targets-seen.type_inv,
      or_lt 64 followed c.only-followed.result inv.1 c.only-followed.type_inv,
      subst (λ (m : ℕ). Reaching ps c.args.a (bit_or seen c.targets-seen.result) (bit_or followed m)) (sym c.only-followed.ensures)
          (reaching_more ps c.args.a seen followed inv.2 step c.targets-seen.result here.0 c.targets-seen.ensures),
    )

pub loop-a-smaller : goal.loop-a-smaller
loop-a-smaller c =
    let ps = items c.args.self.now.pairs in
    let followed = c.loop-a.followed in
    let inv = c.loop-a.invariant in
    let step = c.lowest-step.result in
    let here = to_follow ps c.args.a c.loop-a.seen followed inv.2 step inv.0 inv.1 c.lowest-step.ensures.has in
    let more : followed < bit_or followed c.only-followed.result = subst (λ (m : ℕ). followed < bit_or followed m) (sym c.only-followed.ensures) (or_more followed step here.1) in
    omega (arith, more, inv.1)

pub returns-then-to_follow-eq0 : goal.returns-then-to_follow-eq0
unfolding follows_from
returns-then-to_follow-eq0 c =
    let inv = c.loop-a.invariant in
    reached (items c.args.self.now.pairs) c.args.a c.loop-a.seen c.loop-a.followed inv.2 inv.0 inv.1 c.if-to_follow-eq0.true
