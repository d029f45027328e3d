use Rattle.std.proofs.Common.{ℕ, ◌&&◌, refl, sym, ap, ◌∙◌, rules, tests, arith}
use Rattle.std.specs.List.{find, range_with_len}
use Rattle.std.proofs.lemmas.Iterator.{YieldsList-from_range}
use Rattle.std.proofs.lemmas.Iterator.Adapters.{option_map_id}
use Rattle.std.proofs.lemmas.Iterator.Search.{find_from_yields_List}
use Rattle.domain.specs.Meaning.{tasks}
use Rattle.semantics.specs.OpenLines.{is_step}
use Rattle.plan.specs.Meaning.{given_steps}
use Rattle.plan.specs.Turns.{is_compound}
use Rattle.plan.proofs.Present.{first_step}
use Rattle.plan.proofs.plan.Plan.first_compound.Goals as goal

pub returns : goal.returns
returns c =
    let os = given_steps c.args.self.now.steps in
    let test = is_compound (tasks c.args.known.now) os in
    let wanted = λ (x : ℕ). is_step os x && test x in
    let e = find_from_yields_List wanted _ _ c.find.result c.find.ensures.ran (YieldsList-from_range 0 c.given.result c.given.result refl (omega arith)) (λ x b q k. search (rules, tests)) in
    sym (option_map_id c.find.result) ∙ e ∙ ap (λ n. find wanted (range_with_len 0 n)) c.given.ensures.value ∙ first_step test os
