use Rattle.std.proofs.Common.{◌≡◌, false, ◌∙◌, sym, ap}
use Rattle.order.specs.Puts.{put_each}
use Rattle.semantics.specs.Orders.{Relation}
use Rattle.order.proofs.Handing.{left_none}
use Rattle.order.proofs.Tries.{put_more, put_stop, refused_as}
use Rattle.order.proofs.putting.put_each.Goals as goal

pub loop-a-preserved : goal.loop-a-preserved
loop-a-preserved g c ps y =
    let keeper = g.K.Keeper in
    put_more g.I.Iterator.next_gives keeper.CAPACITY c.loop-a.a-iterator c.next.new.self (keeper.before c.loop-a.keeper) (put_each keeper.CAPACITY (keeper.before c.args.keeper.now) ps)
    (c.in-Some.a, c.in-Some.b) (keeper.before c.put.new.self) (c.loop-a.invariant ps y) c.in-Some.ensures.steps (sym c.in_ok-put.ensures.test) c.in_ok-put.ensures.after

pub returns-in_err-put : goal.returns-in_err-put
returns-in_err-put g c ps y =
    let keeper = g.K.Keeper in
    let refused = c.in_err-put.ensures in
    let all = put_each keeper.CAPACITY (keeper.before c.args.keeper.now) ps in
    let stopped : (false, keeper.before c.loop-a.keeper) ≡ all = put_stop g.I.Iterator.next_gives keeper.CAPACITY c.loop-a.a-iterator c.next.new.self (keeper.before c.loop-a.keeper) all
    (c.in-Some.a, c.in-Some.b) (c.loop-a.invariant ps y) c.in-Some.ensures.steps (sym refused.test) in
    refused_as keeper.CAPACITY (keeper.before c.args.keeper.now) (keeper.before c.put.new.self) ps c.from_residual.result c.from_residual.ensures.0 (ap (λ (R : Relation). (false, R)) refused.after ∙ stopped)

pub returns : goal.returns
returns g c ps y =
    let keeper = g.K.Keeper in
    let put = put_each keeper.CAPACITY in
    left_none g.I.Iterator.next_gives put c.loop-a.a-iterator c.next.new.self (keeper.before c.loop-a.keeper) (put (keeper.before c.args.keeper.now) ps) (c.loop-a.invariant ps y) c.in-None.ensures.steps
