use Rattle.std.proofs.Common.{ℕ, sym, subst}
use lib.Bits.{bit_or}
use Rattle.page.specs.Answers.{as_row}
use Rattle.domain.specs.Meaning.{tasks}
use Rattle.plan.specs.Following.{Took}
use Rattle.plan.specs.Meaning.{plan}
use Rattle.plan.proofs.Takes.{took, took_waiting}
use Rattle.plan.proofs.plan.Plan.take.Goals as goal

pub returns-in-Some : goal.returns-in-Some
returns-in-Some g c taken so_far =
    took_waiting (tasks c.args.known.now) (plan (g.K.Keeper.before c.args.keeper.now) c.args.self.now) taken c.args.s c.args.progress.now so_far
    c.in-Some.step (sym c.if-not-is_step.ensures.test) (sym c.if-marked.ensures) c.in-Some.ensures

pub returns : goal.returns
returns g c taken so_far =
    let ts = tasks c.args.known.now in
    let p = plan (g.K.Keeper.before c.args.keeper.now) c.args.self.now in
    let then = c.facts_then-progress in
    subst (λ (m : ℕ). Took ts p taken c.args.s (as_row 0 then.result 0 0) (record { taken = bit_or c.args.progress.now.taken m; facts = then.result })) (sym c.only.ensures)
    (took ts p taken c.args.s c.args.progress.now so_far then.result (sym c.if-not-is_step.ensures.test) (sym c.if-marked.ensures) c.in_default.ensures then.type_inv then.ensures)
