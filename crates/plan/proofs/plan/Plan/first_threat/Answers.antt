use Rattle.std.proofs.Common.{refl, ap, ◌∙◌, rules, tests, arith}
use Rattle.std.specs.List.{range_with_len}
use Rattle.std.proofs.lemmas.Iterator.{YieldsList-from_range}
use Rattle.domain.specs.Meaning.{tasks}
use Rattle.plan.specs.Meaning.{given_steps, plan}
use Rattle.plan.specs.Turns.{at_step, paired, threatened}
use Rattle.plan.proofs.Mapped.{first_mapped, mapped, found_step}
use Rattle.plan.proofs.plan.Plan.first_threat.Goals as goal

pub returns : goal.returns
returns g c =
    let os = given_steps c.args.self.now.steps in
    let find = threatened (tasks c.args.known.now) (plan (g.K.Keeper.before c.args.keeper.now) c.args.self.now) in
    let at = at_step os (λ x. paired x (find x)) in
    let e = mapped _ (λ x. x) _ at _ (λ x b q k. search (rules, tests)) c.find_map.result _ _ _ (YieldsList-from_range 0 c.given.result c.given.result refl (omega arith)).runs c.find_map.ensures.ran c.find_map.ensures.runs in
    e ∙ ap (λ n. first_mapped at (range_with_len 0 n)) c.given.ensures.value ∙ found_step find os
