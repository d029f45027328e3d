-- The order of a table.
use Rattle.std.specs.Prelude.{ℕ}
use Rattle.order.specs.Marks.{marks}
use Rattle.order.specs.Puts.{Order}
use Rattle.order.specs.Ordered.{order_from}
use Rattle.order.specs.declared.table.Table.{Table}
use Rattle.semantics.specs.Orders.{Relation}

-- which number is before which
unfoldable pub relation : {N : ℕ} → Table N → Relation
relation {N = n} t = marks n t.rows

pub table_order : {N : ℕ} (t : Table N) → Order N (relation t)
unfolding relation
table_order {N = n} t = order_from n (marks n t.rows) t.ok
