use Rattle.std.proofs.Common.{◌≡◌}
use Rattle.fixed.specs.Items.{items}
use Rattle.semantics.specs.Causes.{first_such}
use Rattle.plan.specs.Turns.{no_producer}
use Rattle.plan.proofs.Ups.{Below}
use Rattle.plan.proofs.plan.Plan.first_unlinked.Given as goal

abbrev pub invariant-loop-j : goal.invariant-loop-j
invariant-loop-j l =
    let test = no_producer (items l.self.links) l.s in
    Below (first_such test) l.count l.j ≡ Below (first_such test) l.count 0
