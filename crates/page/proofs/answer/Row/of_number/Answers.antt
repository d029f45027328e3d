use Rattle.std.proofs.Common.{refl, arith}
use Rattle.page.proofs.Lengths.{number_short}
use Rattle.page.proofs.answer.Row.of_number.Goals as goal

pub returns : goal.returns
returns c = record { is = refl; short = number_short c.args.code c.args.a c.requires (omega arith) }
