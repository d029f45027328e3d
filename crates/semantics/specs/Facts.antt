-- The facts that hold as steps are taken.
use Rattle.std.specs.Prelude.{ℕ, zero, suc, ◌+◌, ◌^◌, Bool, false, cond, not, ◌&&◌, ◌||◌, List, [], ◌∷◌, Some, None, Option, ◌==◌}
use Rattle.semantics.specs.Orders.{Holds, In}
use Rattle.semantics.specs.Plans.{Plan, steps_of, task_of}
use Rattle.semantics.specs.Tasks.{Task}

-- whether a number is in a list
abbrev pub among : ℕ → List ℕ → Bool
among f [] = false
among f (g ∷ gs) = f == g || among f gs

-- a set of facts: yes or no for each fact
abbrev pub Facts : Type 0
Facts = ℕ → Bool

-- The facts after a task is carried out: its deletes are removed, then its adds join.
abbrev pub after : Task → Facts → Facts
after t facts f = among f t.adds || (facts f && not (among f t.deletes))

abbrev pub after_step : Option Task → Facts → Facts
after_step None facts = facts
after_step (Some t) facts = after t facts

-- the facts after some steps of a plan are taken, the latest first in the list; none hold before the first
abbrev pub facts_after : List Task → Plan → List ℕ → Facts
facts_after ts p [] f = false
facts_after ts p (s ∷ ss) f = after_step (task_of ts p s) (facts_after ts p ss) f

-- the sum of 2 to the power f over the facts f below n that hold
abbrev pub sum_below : ℕ → Facts → ℕ
sum_below zero facts = 0
sum_below (suc n) facts = sum_below n facts + cond (facts n) (2 ^ n) 0

-- the facts that hold, 0 to 63, as one number
abbrev pub as_sum : Facts → ℕ
as_sum facts = sum_below 64 facts

-- Step s can be taken once the steps of the list are taken: by order alone.
pub record CanTake (p : Plan) (done : List ℕ) (s : ℕ) : Type 0 where
  pub present : In s (steps_of p)
  pub untaken : In s done → ⊥
  pub behind : (x : ℕ) → Holds p.before x s → In x done

-- Each step of the list, the latest first, was a step of the plan, was taken once, and after every step that is before it.
abbrev pub Taken : Plan → List ℕ → Type 0
Taken p [] = Unit {0}
Taken p (s ∷ ss) = CanTake p ss s × Taken p ss
