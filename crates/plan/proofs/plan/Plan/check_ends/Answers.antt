use Rattle.plan.specs.Meaning.{given_steps}
use Rattle.semantics.specs.Plans.{at_task}
use Rattle.semantics.specs.Tasks.{adds_of, needs_of}
use Rattle.std.specs.List.{slice_get}
use Rattle.domain.specs.Meaning.{tasks}
use Rattle.domain.proofs.Lists.{nth_there}
use Rattle.plan.proofs.plan.Plan.check_ends.Goals as goal

pub returns : goal.returns
returns c =
    let ts = tasks c.args.known.now in
    let ss = given_steps c.args.self.now.steps in
    let l = c.args.l in
    let add = nth_there (adds_of (at_task ts (slice_get ss l.producer))) l.add in
    let goal = nth_there (needs_of (at_task ts (slice_get ss l.consumer))) l.need in
    cc (c.check_ends.ensures, c.is_step.ensures.test, c.is_step-2.ensures.test, c.fact_of.ensures, c.fact_wanted.ensures)
