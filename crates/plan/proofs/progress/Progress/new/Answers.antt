use Rattle.plan.proofs.Takes.{starts}
use Rattle.plan.proofs.progress.Progress.new.Goals as goal

pub returns : goal.returns
returns c = starts
