use Rattle.std.proofs.Common.{arith, refl, rules, ap, length, length-drop}
use Rattle.page.proofs.Cuts.{from_on, line_none, line_with_feed, line_without_feed}
use Rattle.page.proofs.text.line_at.Goals as goal

pub returns-then-at-text : goal.returns-then-at-text
returns-then-at-text c = record { line = line_none c.args.text.now c.args.at (search rules); next = search rules }

pub returns-in-Some : goal.returns-in-Some
returns-in-Some c =
    let found = c.in-Some.ensures in
    let size = ap length (from_on c.args.text.now c.args.at (omega arith)) in
    record {
      line = line_with_feed c.args.text.now c.args.at c.in-Some.feed _ _ (omega arith) refl found.0 found.1 found.2 c.without_return.ensures;
      next = (omega arith, omega (arith, found.0, size, length-drop c.args.at c.args.text.now));
    }

pub returns-in-None : goal.returns-in-None
returns-in-None c = record { line = line_without_feed c.args.text.now c.args.at _ (omega arith) refl c.in-None.ensures; next = (omega arith, omega arith) }
