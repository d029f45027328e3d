use Rattle.std.proofs.Common.{◌≡◌}
use Rattle.domain.specs.Meaning.{tasks}
use Rattle.fixed.specs.Items.{items}
use Rattle.semantics.specs.Causes.{first_found}
use Rattle.plan.specs.Meaning.{given_steps}
use Rattle.plan.specs.Turns.{unlinked_of}
use Rattle.plan.proofs.Ups.{From}
use Rattle.plan.proofs.plan.Plan.first_open.Given as goal

abbrev pub invariant-loop-s : goal.invariant-loop-s
invariant-loop-s l =
    let os = given_steps l.self.steps in
    let find = unlinked_of (tasks l.known) os (items l.self.links) in
    From (first_found find) os l.s ≡ From (first_found find) os 0
