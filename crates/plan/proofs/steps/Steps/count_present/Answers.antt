use Rattle.std.proofs.Common.{◌≡◌, is_some, ℕ, Option, ◌∙◌, rules}
use Rattle.std.specs.List.{count_by}
use Rattle.plan.specs.Meaning.{given_steps}
use Rattle.plan.proofs.Lowest.{count_present}
use Rattle.plan.proofs.steps.Steps.count_present.Goals as goal

pub returns : goal.returns
returns c =
    let os = given_steps c.args.self.now in
    let e : c.count.result ≡ count_by {X = Option ℕ} (λ o. is_some o) os = search rules in
    e ∙ count_present os
