use Rattle.semantics.proofs.Frames.{sequence_orders_nothing}
use Rattle.semantics.proofs.laws.sequence_orders_nothing.Goals as goal

pub returns : goal.returns
returns c = sequence_orders_nothing
