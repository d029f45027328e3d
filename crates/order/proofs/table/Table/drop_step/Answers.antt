use Rattle.std.proofs.Common.{arith}
use Rattle.order.specs.Ordered.{dropped_past}
use Rattle.order.specs.Tables.{relation, table_order}
use Rattle.order.proofs.Marking.{marks_dropped, marks_dropped_order}
use Rattle.order.proofs.table.Table.drop_step.Goals as goal

pub invariant_of-self : goal.invariant_of-self
unfolding relation
invariant_of-self g c =
    let t = c.args.self.now in
    record {
      few = t.few;
      ok = ∣ marks_dropped_order g.row.N t.few t.rows c.prune.new.rows (table_order t) c.args.a c.if-a.true (λ x l. c.prune.ensures x (omega arith)) ∣₁;
    }

pub returns-then-a : goal.returns-then-a
unfolding relation
returns-then-a g c =
    let t = c.args.self.now in
    marks_dropped g.row.N t.few t.rows c.prune.new.rows (table_order t) c.args.a c.if-a.true (λ x l. c.prune.ensures x (omega arith))

pub returns-else-a : goal.returns-else-a
unfolding relation
returns-else-a g c =
    let t = c.args.self.now in
    dropped_past g.row.N (relation t) c.args.a (table_order t) c.if-a.false
