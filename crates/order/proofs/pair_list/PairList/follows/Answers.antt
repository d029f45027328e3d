use Rattle.std.proofs.Common.{sym, arith}
use Rattle.order.specs.PairLists.{follows_from, list_order}
use Rattle.semantics.proofs.Orders.{is_false}
use Rattle.order.proofs.pair_list.PairList.follows.Goals as goal

pub returns-then-a-ge32 : goal.returns-then-a-ge32
returns-then-a-ge32 c =
    let me = c.args.self.now in
    let o = list_order me in
    sym (is_false (follows_from me c.args.a c.args.b) (λ h.
    let w = o.within c.args.a c.args.b h in
    grind (arith, w.0, w.1, c.then-a-ge32.either, h, o.strict.never_itself c.args.a)))
