use Rattle.semantics.proofs.Plans.{threat_comes_true}
use Rattle.semantics.proofs.laws.threat_comes_true.Goals as goal

pub returns : goal.returns
returns c = threat_comes_true
