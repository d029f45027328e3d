use Rattle.page.specs.Answers.{row}
use Rattle.told_domain.specs.Domains.{parts}
use Rattle.checker.proofs.Stepping.{by_domain, of_the_domain}
use Rattle.checker.proofs.checker.Checker.carry_out.Goals as goal
use Rattle.checker.specs.Meaning.{held}

pub returns-in_default : goal.returns-in_default
returns-in_default g c =
    let h = held (g.K.Keeper.before c.args.self.now.keeper) c.args.self.now in
    let e = c.in_default in
    let own = of_the_domain h.domain.phase c.args.command e.not-NewStep e.not-PutOrder e.not-PutLink e.not-Decompose e.not-Judge e.not-Take in
    by_domain g.K.Keeper.CAPACITY h (row c.carry_out.result) c.args.command own.1 (parts c.carry_out.new.self) (c.carry_out.ensures.domain own.0)
