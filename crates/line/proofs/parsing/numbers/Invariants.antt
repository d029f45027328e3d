use Rattle.line.specs.Fields.{fields_left, left}
use Rattle.line.proofs.Counting.{Sofar}
use Rattle.line.proofs.parsing.numbers.Given as goal

abbrev pub invariant-loop-field : goal.invariant-loop-field
invariant-loop-field g l = Sofar (fields_left l.rest) l.all (left l.field-iterator.rest) g.row.N
