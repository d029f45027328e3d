use Rattle.std.proofs.Common.{sym, ◌∙◌, arith}
use Rattle.checker.proofs.Turns.{no_line, no_room, start, turn}
use Rattle.checker.proofs.checker.Checker.run.Goals as goal
use Rattle.checker.specs.Runs.{after_lines, texts}

pub loop-next-init : goal.loop-next-init
loop-next-init g c = (omega arith, omega arith, λ past means. start g.K.Keeper.CAPACITY past c.args.text.now c.args.page.now _ means)

pub loop-next-preserved : goal.loop-next-preserved
loop-next-preserved g c = (
  omega (arith, c.in-Some.ensures.next),
  omega (arith, c.answer_on-written.ensures.within, c.loop-next.auto.page),
  λ past means.
      let so = c.loop-next.invariant.2 past means in
      turn g.K.Keeper.CAPACITY past c.args.text.now c.args.page.now c.loop-next.next c.loop-next.written c.loop-next.page _ so
      c.in-Some.line.text.now c.in-Some.line.next c.answer_on-written.result c.answer_on-written.new.page _ c.in-Some.ensures.line (sym c.has_room.ensures ∙ c.loop-next-test.true)
      (c.answer_on-written.ensures.told (after_lines past (texts so.told)) so.means),
)

pub loop-next-smaller : goal.loop-next-smaller
loop-next-smaller g c = omega (arith, c.in-Some.ensures.next, c.loop-next.invariant.0)

pub returns-after-loop-next : goal.returns-after-loop-next
returns-after-loop-next g c =
    let few = g.met.K.Keeper.few in
    record {
      within = (c.loop-next.invariant.0, c.loop-next.invariant.1);
      runs = λ past means.
          no_room g.K.Keeper.CAPACITY past c.args.text.now c.args.page.now c.loop-next.next c.loop-next.written c.loop-next.page _ (c.loop-next.invariant.2 past means)
          few.0 few.1 (sym c.has_room.ensures ∙ c.loop-next-test.false);
    }

pub returns-in_default : goal.returns-in_default
returns-in_default g c =
    let few = g.met.K.Keeper.few in
    record {
      within = (c.loop-next.invariant.0, c.loop-next.invariant.1);
      runs = λ past means.
          no_line g.K.Keeper.CAPACITY past c.args.text.now c.args.page.now c.loop-next.next c.loop-next.written c.loop-next.page _ (c.loop-next.invariant.2 past means)
          few.0 few.1 c.in_default.ensures.line;
    }
