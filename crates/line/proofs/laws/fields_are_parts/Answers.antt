use Rattle.line.proofs.Joins.{whole, apart}
use Rattle.line.proofs.laws.fields_are_parts.Goals as goal

pub returns : goal.returns
returns c = record { whole = whole; apart = apart }
