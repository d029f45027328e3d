use Rattle.semantics.proofs.Table.{always_framed}
use Rattle.semantics.proofs.laws.always_framed.Goals as goal

pub returns : goal.returns
returns c = always_framed
