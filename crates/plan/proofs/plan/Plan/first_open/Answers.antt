use Rattle.std.proofs.Common.{sym, arith}
use Rattle.domain.specs.Meaning.{tasks}
use Rattle.fixed.specs.Items.{items}
use Rattle.plan.specs.Meaning.{given_steps}
use Rattle.plan.specs.Turns.{unlinked_of}
use Rattle.plan.proofs.Ups.{found_on, found_here}
use Rattle.plan.proofs.plan.Plan.first_open.Goals as goal

pub returns-in-Some : goal.returns-in-Some
returns-in-Some c =
    let os = given_steps c.args.self.now.steps in
    found_here (unlinked_of (tasks c.args.known.now) os (items c.args.self.now.links)) os c.loop-s.s _ (omega (arith, c.given-s-end.ensures.value)) (sym c.in-Some.ensures) c.loop-s.invariant

pub loop-s-preserved : goal.loop-s-preserved
loop-s-preserved c =
    let os = given_steps c.args.self.now.steps in
    found_on (unlinked_of (tasks c.args.known.now) os (items c.args.self.now.links)) os c.loop-s.s (omega (arith, c.given-s-end.ensures.value)) (sym c.in_default.ensures) c.loop-s.invariant
