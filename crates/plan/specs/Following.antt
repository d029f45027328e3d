-- How far a plan is carried out, as masks.
use Rattle.std.specs.Prelude.{◌≡◌, ℕ, Bool, not, ◌&&◌, List, ◌∷◌}
use Rattle.masks.specs.Bits.{bit}
use Rattle.page.specs.declared.answer.Row.{Row}
use Rattle.semantics.specs.Causes.{first_of, told}
use Rattle.semantics.specs.Facts.{among, as_sum, facts_after}
use Rattle.semantics.specs.Orders.{Relation}
use Rattle.semantics.specs.PlanLines.{take_causes}
use Rattle.semantics.specs.Plans as planned
use Rattle.semantics.specs.Tasks.{Task}
use Rattle.plan.specs.declared.progress.Progress.{Progress}

-- the steps of the list, the latest first, are those taken, and the facts are those after them
pub record Follows (ts : List Task) (p : planned.Plan) (taken : List ℕ) (g : Progress) : Type 0 where
  pub steps : (x : ℕ) → bit g.taken x ≡ among x taken
  pub facts : (f : ℕ) → bit g.facts f ≡ facts_after ts p taken f

-- The row of the line R,s once the steps of the list are taken, and how far the plan is carried out then.
pub record Took (ts : List Task) (p : planned.Plan) (taken : List ℕ) (s : ℕ) (w : Row) (g : Progress) : Type 0 where
  pub answers : w ≡ first_of (take_causes p taken s) (as_sum (facts_after ts p (s ∷ taken)))
  pub follows : Follows ts p (told w (s ∷ taken) taken) g

-- whether step x is before step s and not in the mask of the steps taken
abbrev pub is_behind : Relation → ℕ → ℕ → ℕ → Bool
is_behind before taken s x = before x s && not (bit taken x)
