-- What a checker stands for, in the words of the rules.
use Rattle.std.specs.Prelude.{◌≡◌}
use Rattle.semantics.specs.Orders.{Relation}
use Rattle.semantics.specs.Plans as planned
use Rattle.semantics.specs.States.{State}
use Rattle.told_domain.specs.Domains.{Parts, parts, state_with}
use Rattle.plan.specs.Following.{Follows}
use Rattle.plan.specs.Meaning.{plan}
use Rattle.plan.specs.declared.progress.Progress.{Progress}
use Rattle.checker.specs.declared.checker.Checker.{Checker}

-- What a checker holds: the domain with its phase, the plan in the order that its keeper means, and how far it is carried out.
pub record Held : Type 0 where
  pub domain : Parts
  pub plan : planned.Plan
  pub progress : Progress

abbrev pub held : {K : Type 0} → Relation → Checker K → Held
held before c = record { domain = parts c.domain; plan = plan before c.plan; progress = c.progress }

-- The checker stands for a state of the rules: its domain and plan are the state's, and its masks have the steps that are taken
-- there and the facts after them.
pub record Means (h : Held) (st : State) : Type 0 where
  pub is : st ≡ state_with h.domain h.plan st.taken
  pub follows : Follows h.domain.tasks h.plan st.taken h.progress
