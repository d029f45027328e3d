-- The numbers of new steps, and the order that they inherit, on either side of the step that leaves.
use Rattle.std.specs.Prelude.{ℕ, Bool, List, length, Option}
use Rattle.methods.specs.Meaning.{method}
use Rattle.plan.specs.Meaning.{given_steps}
use Rattle.semantics.specs.Decomposing.{each_to, turned, upfrom}
use Rattle.semantics.specs.Orders.{Relation}
use Rattle.decomposing.specs.declared.exchange.Exchange.{Exchange}
use Rattle.decomposing.specs.declared.exchange.Side.{Side}
use Rattle.decomposing.specs.declared.exchange.Side.TheVariants.{After, Before}

-- the steps of the plan before the exchange
abbrev pub old_steps : Exchange → List (Option ℕ)
old_steps e = given_steps e.target.now.steps

-- the number of the first new step
abbrev pub first : Exchange → ℕ
first e = length (old_steps e)

-- the numbers of the new steps
abbrev pub numbers : Exchange → List ℕ
numbers e = upfrom (first e) (length (method e.method.now).steps)

-- a step on that side of another, and that other, as the earlier and the later one
abbrev pub facing_pair : Side → ℕ → ℕ → ℕ × ℕ
facing_pair Before x y = (x, y)
facing_pair After x y = (y, x)

-- whether x stands on that side of step s
abbrev pub beside : Side → Relation → ℕ → ℕ → Bool
beside Before R s = λ x. R x s
beside After R s = λ x. R s x

-- pairs of an old step and a new one, as they are put
abbrev pub facing : Side → List (ℕ × ℕ) → List (ℕ × ℕ)
facing Before ps = ps
facing After ps = turned ps

-- each of xs that stands on that side of step s, with each of ns
abbrev pub inherited : Side → Relation → ℕ → List ℕ → List ℕ → List (ℕ × ℕ)
inherited d R s xs ns = facing d (each_to (beside d R s) xs ns)
