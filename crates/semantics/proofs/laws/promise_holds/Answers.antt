use Rattle.semantics.proofs.Promise.{promise_holds}
use Rattle.semantics.proofs.laws.promise_holds.Goals as goal

pub returns : goal.returns
returns c = promise_holds
