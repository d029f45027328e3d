use Rattle.std.proofs.Common.{◌≡◌, false, ◌∙◌}
use Rattle.order.specs.Operations.{same_answers}
use Rattle.order.proofs.Tries.{agree_stop, low_alike, same_capacity}
use Rattle.order.proofs.operation.agree.Goals as goal

pub returns-then-apply : goal.returns-then-apply
returns-then-apply g c =
    let m = g.K.Keeper in
    let n = g.L.Keeper in
    let R = m.before c.args.one.now in
    let S = n.before c.args.other.now in
    let os = c.args.operations.now in
    let stop : false ≡ same_answers m.CAPACITY n.CAPACITY R S os =
    agree_stop m.CAPACITY n.CAPACITY (m.before c.loop-operation.one) (n.before c.loop-operation.other) os c.loop-operation.operation-index
    c.loop-operation-test.true (same_answers m.CAPACITY n.CAPACITY R S os) c.loop-operation.invariant
    _ _ _ _ c.apply.ensures c.apply-in-loop-operation.ensures c.if-apply.true in
    record {
      is = stop;
      equal = λ e f. stop ∙ same_capacity m.CAPACITY n.CAPACITY R S os e f;
      below = λ l k f. stop ∙ low_alike m.CAPACITY n.CAPACITY R S os l k f;
    }
