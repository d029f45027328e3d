-- The order that follows from the pairs of a list.
use Rattle.fixed.specs.Items.{items}
use Rattle.order.specs.Puts.{Order}
use Rattle.order.specs.Stored.{closure, Stored}
use Rattle.order.specs.Lists.{stored_from}
use Rattle.order.specs.declared.pair_list.PairList.{PairList}
use Rattle.semantics.specs.Orders.{Relation}

-- which step is before which
unfoldable pub follows_from : PairList → Relation
follows_from l = closure (items l.pairs)

pub list_stored : (l : PairList) → Stored 32 (items l.pairs)
list_stored l = stored_from 32 (items l.pairs) l.ok

pub list_order : (l : PairList) → Order 32 (follows_from l)
unfolding follows_from
list_order l = (list_stored l).order
