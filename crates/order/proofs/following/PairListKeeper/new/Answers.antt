use Rattle.std.proofs.Common.{sym, subst, ap, ◌∙◌}
use Rattle.order.specs.Lists.{closure_none, stored_none}
use Rattle.order.specs.PairLists.{follows_from}
use Rattle.order.specs.Stored.{closure, Stored}
use Rattle.order.proofs.following.PairListKeeper.new.Goals as goal

pub invariant_of-result : goal.invariant_of-result
invariant_of-result c = record { ok = ∣ subst (Stored 32) (sym c.new.ensures) (stored_none 32) ∣₁ }

pub returns : goal.returns
unfolding follows_from
returns c = ap closure c.new.ensures ∙ closure_none
