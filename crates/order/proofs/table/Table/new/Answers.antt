use Rattle.order.specs.Tables.{relation}
use Rattle.order.proofs.Marking.{marks_none, none_order}
use Rattle.order.proofs.table.Table.new.Goals as goal

pub invariant_of-result : goal.invariant_of-result
invariant_of-result g c = record { few = c.requires; ok = ∣ none_order g.row.N ∣₁ }

pub returns : goal.returns
unfolding relation
returns g c = marks_none g.row.N
