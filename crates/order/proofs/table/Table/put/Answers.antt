use Rattle.std.proofs.Common.{sym, arith}
use Rattle.std.proofs.lemmas.Bool.{true≢false}
use Rattle.order.specs.Ordered.{free_from, smallest_is}
use Rattle.order.specs.Tables.{relation, table_order}
use Rattle.order.proofs.Marking.{marks_put, marks_put_order}
use Rattle.order.proofs.table.Table.put.Goals as goal

pub invariant_of-self : goal.invariant_of-self
unfolding relation
invariant_of-self g c =
    let t = c.args.self.now in
    let free = free_from g.row.N (relation t) c.args.a c.args.b (sym c.if-not-can_put.ensures) in
    record {
      few = t.few;
      ok = ∣ marks_put_order g.row.N t.rows c.join.new.rows (table_order t) c.args.a c.args.b free _ c.from_on-after.ensures (λ x l. c.join.ensures x (omega arith)) ∣₁;
    }

pub returns : goal.returns
unfolding relation
returns g c =
    let t = c.args.self.now in
    let o = table_order t in
    let free = free_from g.row.N (relation t) c.args.a c.args.b (sym c.if-not-can_put.ensures) in
    let e = marks_put g.row.N t.rows c.join.new.rows o c.args.a c.args.b free _ c.from_on-after.ensures (λ x l. c.join.ensures x (omega arith)) in
    record {
      test = c.if-not-can_put.ensures;
      after = e;
      least = λ _. smallest_is (relation t) _ c.args.a c.args.b o.strict.passes_on e;
      same = λ h. absurd (true≢false h);
    }
