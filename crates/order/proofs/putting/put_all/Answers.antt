use Rattle.std.proofs.Common.{◌≡◌, Bool, is_ok}
use Rattle.std.proofs.lemmas.Iterator.{YieldsList-from_slice}
use Rattle.std.proofs.lemmas.Iterator.Consumers.{YieldsList-at, YieldsList-from_copied}
use Rattle.order.specs.Puts.{put_each}
use Rattle.order.proofs.Tries.{all_tries}
use Rattle.order.proofs.putting.put_all.Goals as goal
use Rattle.semantics.specs.Orders.{Relation}

pub returns : goal.returns
returns g c =
    let m = g.K.Keeper in
    let ps = c.args.pairs.now in
    let R = m.before c.args.keeper.now in
    let S = m.before c.put_each.new.keeper in
    let ok = is_ok c.put_each.result in
    let all : ◌≡◌ {A = Bool × Relation} (ok, S) (put_each m.CAPACITY R ps) =
    c.put_each.ensures _ (YieldsList-from_copied (YieldsList-at c.copied.ensures.source (YieldsList-from_slice ps cc))).runs in
    record { puts = all; closes = λ l. all_tries m.CAPACITY R S ok ps all l }
