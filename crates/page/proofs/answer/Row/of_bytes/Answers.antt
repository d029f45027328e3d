use Rattle.std.proofs.Common.{refl, arith}
use Rattle.page.proofs.Lengths.{bytes_short}
use Rattle.page.proofs.answer.Row.of_bytes.Goals as goal

pub returns : goal.returns
returns c = record { is = refl; short = bytes_short c.args.code c.args.a c.args.b c.args.c (omega arith) (omega arith) (omega arith) (omega arith) }
