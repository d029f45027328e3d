use Rattle.std.proofs.Common.{rules, ap, length}
use Rattle.page.proofs.Steps.{lines_step}
use Rattle.page.proofs.reading.LinesIterator.next.Goals as goal

pub returns-clause-steps : goal.returns-clause-steps
returns-clause-steps c = lines_step c.args.self.now.text.now c.args.self.now.place c.in_ok-line.line.text.now c.in_ok-line.line.next c.in_ok-line.ensures.line

pub returns-clause-goes : goal.returns-clause-goes
returns-clause-goes c = let e = ap length (lines_step c.args.self.now.text.now c.args.self.now.place c.in_ok-line.line.text.now c.in_ok-line.line.next c.in_ok-line.ensures.line) in search rules
