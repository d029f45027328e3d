use Rattle.page.proofs.Breaking.{lines_of_a_text}
use Rattle.page.proofs.text.lines_are_the_text.Goals as goal

pub returns : goal.returns
returns c = lines_of_a_text
