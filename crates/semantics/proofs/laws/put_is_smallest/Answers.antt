use Rattle.semantics.proofs.Puts.{put_is_smallest}
use Rattle.semantics.proofs.laws.put_is_smallest.Goals as goal

pub returns : goal.returns
returns c = put_is_smallest
