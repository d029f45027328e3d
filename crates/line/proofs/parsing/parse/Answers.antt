use Rattle.std.proofs.Common.{rules}
use Rattle.line.proofs.Firsts.{alone, split, no_letter}
use Rattle.line.proofs.parsing.parse.Goals as goal

pub returns-in-len1 : goal.returns-in-len1
returns-in-len1 c = alone c.args.line.now c.command_of.result (search rules) c.in_default.ensures c.command_of.ensures

pub returns-in-44 : goal.returns-in-44
returns-in-44 c = split c.args.line.now c.command_of-in-44.result (search rules) (search rules) c.in_default.ensures c.command_of-in-44.ensures

pub returns-in_default-line : goal.returns-in_default-line
returns-in_default-line c = no_letter c.args.line.now (search rules) (search rules) c.in_default.ensures

pub returns-in_default-line-2 : goal.returns-in_default-line-2
returns-in_default-line-2 c = no_letter c.args.line.now (search rules) (search rules) c.in_default.ensures
