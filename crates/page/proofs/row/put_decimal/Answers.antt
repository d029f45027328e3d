use Rattle.std.proofs.Common.{arith}
use Rattle.page.proofs.Lengths.{length_digit, length_two}
use Rattle.page.proofs.Writes.{length_tens, written_digit, written_two}
use Rattle.page.proofs.row.put_decimal.Goals as goal

pub bounds-page-at : goal.bounds-page-at
bounds-page-at c = omega (arith, length_digit c.args.n (omega arith))

pub returns-then-n-lt10-clause-page : goal.returns-then-n-lt10-clause-page
returns-then-n-lt10-clause-page c =
    let long = length_digit c.args.n (omega arith) in
    written_digit c.args.page.now c.args.at c.args.n (omega arith) (omega arith)

pub returns-then-n-lt10-clause-place : goal.returns-then-n-lt10-clause-place
returns-then-n-lt10-clause-place c = omega (arith, length_digit c.args.n (omega arith))

pub bounds-page-at-then-n-lt100 : goal.bounds-page-at-then-n-lt100
bounds-page-at-then-n-lt100 c = omega (arith, length_two c.args.n (omega arith) (omega arith))

pub bounds-page-at-then-n-lt100-2 : goal.bounds-page-at-then-n-lt100-2
bounds-page-at-then-n-lt100-2 c =
    let long = length_two c.args.n (omega arith) (omega arith) in
    omega (arith, length_tens c.args.page.now c.args.at c.args.n (omega arith) (omega arith))

pub returns-then-n-lt100-clause-page : goal.returns-then-n-lt100-clause-page
returns-then-n-lt100-clause-page c =
    let long = length_two c.args.n (omega arith) (omega arith) in
    written_two c.args.page.now c.args.at c.args.n (omega arith) (omega arith) (omega arith)

pub returns-then-n-lt100-clause-place : goal.returns-then-n-lt100-clause-place
returns-then-n-lt100-clause-place c = omega (arith, length_two c.args.n (omega arith) (omega arith))
