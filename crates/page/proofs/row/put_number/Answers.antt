use Rattle.std.proofs.Common.{arith}
use Rattle.page.proofs.Lengths.{length_number}
use Rattle.page.proofs.Writes.{then_byte}
use Rattle.page.proofs.row.put_number.Goals as goal

pub put_decimal-end-requires : goal.put_decimal-end-requires
put_decimal-end-requires c = omega (arith, length_number c.args.n c.args.after)

pub bounds-page-end : goal.bounds-page-end
bounds-page-end c = omega (arith, length_number c.args.n c.args.after)

pub overflow_add-result : goal.overflow_add-result
overflow_add-result c = omega (arith, length_number c.args.n c.args.after)

pub returns : goal.returns
returns c =
    let long = length_number c.args.n c.args.after in
    record {
      page = then_byte c.args.page.now c.args.at _ _ _ _ (omega arith) c.put_decimal-end.ensures.page c.put_decimal-end.ensures.place;
      place = omega (arith, c.put_decimal-end.ensures.place);
    }
