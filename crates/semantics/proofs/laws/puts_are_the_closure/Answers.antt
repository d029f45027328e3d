use Rattle.semantics.proofs.Puts.{puts_are_the_closure}
use Rattle.semantics.proofs.laws.puts_are_the_closure.Goals as goal

pub returns : goal.returns
returns c = puts_are_the_closure
