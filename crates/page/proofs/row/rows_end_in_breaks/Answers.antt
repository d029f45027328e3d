use Rattle.std.proofs.Common.{append_assoc}
use Rattle.page.proofs.row.rows_end_in_breaks.Goals as goal

pub returns : goal.returns
returns c = λ r. simp append_assoc
