use Rattle.line.proofs.Texts.{one_text}
use Rattle.line.proofs.laws.every_command_has_one_text.Goals as goal

pub returns : goal.returns
returns c = one_text
