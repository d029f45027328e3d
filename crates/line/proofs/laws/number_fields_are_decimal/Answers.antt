use Rattle.line.proofs.Decimals.{decimal_texts}
use Rattle.line.proofs.laws.number_fields_are_decimal.Goals as goal

pub returns : goal.returns
returns c = decimal_texts
