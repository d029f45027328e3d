-- What a plan and its keeper mean together.
use Rattle.std.specs.Prelude.{ℕ, ◌<◌, ◌≤◌, Bool, cond, List, length, Some, None, Option}
use Rattle.fixed.specs.Items.{items}
use Rattle.plan.specs.declared.plan.Plan.{Plan}
use Rattle.plan.specs.declared.steps.Steps.{Steps}
use Rattle.semantics.specs.Orders.{Holds, put, Relation}
use Rattle.semantics.specs.Plans as planned
use Rattle.semantics.specs.declared.link.Link.{Link}

-- at each step number given so far the number of the step's task, or None once the step has left
abbrev pub given_steps : Steps → List (Option ℕ)
given_steps s = items s.list

-- the plan with the order that its keeper means
abbrev pub plan : Relation → Plan → planned.Plan
plan before p = record { steps = given_steps p.steps; links = items p.links; before = before }

-- a plan with one link more, whose producer is put before its consumer where `ordered` says so
abbrev pub linked_in : planned.Plan → Link → Bool → planned.Plan
linked_in p l ordered = record {
  steps = p.steps;
  links = planned.with_link p.links l;
  before = cond ordered (put p.before l.producer l.consumer) p.before;
}

-- the task number of a step that is present
abbrev pub present : Option (Option ℕ) → Option ℕ
present None = None
present (Some o) = o

-- A keeper for n steps can order the plan: it has the plan's step numbers; init and goal, the steps 0 and 1, are given, init
-- before goal; and only given numbers are related.
pub record Suits (n : ℕ) (p : planned.Plan) : Type 0 where
  pub room : length p.steps ≤ n
  pub both : 2 ≤ length p.steps
  pub starts : Holds p.before 0 1
  pub given : (a b : ℕ) → Holds p.before a b → (a < length p.steps) × (b < length p.steps)
