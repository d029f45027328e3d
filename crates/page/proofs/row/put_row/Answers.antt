use Rattle.std.proofs.Common.{arith, rules}
use Rattle.page.proofs.Lengths.{length_parts}
use Rattle.page.proofs.Writes.{written_row}
use Rattle.page.proofs.row.put_row.Goals as goal

pub put_number-code-requires : goal.put_number-code-requires
put_number-code-requires c = omega (arith, length_parts c.args.row)

pub put_number-a-requires : goal.put_number-a-requires
put_number-a-requires c = omega (arith, length_parts c.args.row)

pub put_number-b-requires : goal.put_number-b-requires
put_number-b-requires c = omega (arith, length_parts c.args.row)

pub put_number-c-requires : goal.put_number-c-requires
put_number-c-requires c = omega (arith, length_parts c.args.row)

pub bounds-page-c : goal.bounds-page-c
bounds-page-c c = omega (arith, length_parts c.args.row)

pub overflow_add-result : goal.overflow_add-result
overflow_add-result c = omega (arith, length_parts c.args.row)

pub returns : goal.returns
returns c =
    let whole = written_row c.args.page.now c.args.at c.args.row _ _ _ _ _ _ _ _ c.requires c.put_number-code.ensures.page c.put_number-code.ensures.place c.put_number-a.ensures.page c.put_number-a.ensures.place c.put_number-b.ensures.page c.put_number-b.ensures.place c.put_number-c.ensures.page c.put_number-c.ensures.place in
    record { page = search rules; place = omega (arith, length_parts c.args.row) }
