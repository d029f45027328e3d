use Rattle.std.proofs.Common.{sym, arith}
use Rattle.page.specs.Answers.{row}
use Rattle.checker.proofs.Histories.{command_kept, reached, refusal_kept}
use Rattle.checker.proofs.checker.Checker.tell.Goals as goal
use Rattle.checker.specs.Meaning.{held}

pub returns : goal.returns
returns g c told means =
    let n = g.K.Keeper.CAPACITY in
    let few = g.met.K.Keeper.few in
    let h = held (g.K.Keeper.before c.args.self.now.keeper) c.args.self.now in
    command_kept n few.0 few.1 told c.args.line.now h means c.in_ok-parse.field-0 (row c.carry_out.result) _ (reached n few.0 told) (sym c.in_ok-parse.ensures) c.carry_out.ensures

pub returns-in_err-parse : goal.returns-in_err-parse
returns-in_err-parse g c told means =
    let n = g.K.Keeper.CAPACITY in
    let few = g.met.K.Keeper.few in
    let h = held (g.K.Keeper.before c.args.self.now.keeper) c.args.self.now in
    refusal_kept n few.0 few.1 told c.args.line.now h means c.in_err-parse.field-0.0 (row c.from_residual.result) (sym c.in_err-parse.ensures) (grind (arith, c.from_residual.ensures))
