-- What becomes of a command.
use Rattle.std.specs.Prelude.{◌≡◌, ℕ, List, [], ◌≢◌}
use Rattle.line.specs.declared.command.Command.{Command}
use Rattle.page.specs.declared.answer.Row.{Row}
use Rattle.semantics.specs.Causes.{told}
use Rattle.semantics.specs.Rules.{verdict}
use Rattle.semantics.specs.States.{next, State}
use Rattle.semantics.specs.declared.phase.Phase.TheVariants.{Running}
use Rattle.plan.specs.Following.{Follows}
use Rattle.plan.specs.Meaning.{Suits}
use Rattle.told_domain.specs.Domains.{state_with}
use Rattle.checker.specs.Meaning.{Held, Means}

-- What every state that lines lead to has: a keeper for so many steps can order its plan, and no step is taken before the plan is
-- accepted.
pub record Reached (capacity : ℕ) (st : State) : Type 0 where
  pub suits : Suits capacity st.plan
  pub fresh : (st.phase ≢ Running) → st.taken ≡ []

-- The row of a command in a state, and what the checker holds then: those that the rules give.
pub record Outcome (capacity : ℕ) (st : State) (c : Command) (w : Row) (after : Held) : Type 0 where
  pub answers : w ≡ verdict capacity st c
  pub means : Means after (told w (next st c) st)

-- Whatever steps are taken, the command has the outcome of the rules.
abbrev pub Obeys : ℕ → Command → Row → Held → Held → Type 0
Obeys capacity c w before after =
    (taken : List ℕ) → Follows before.domain.tasks before.plan taken before.progress
    → Reached capacity (state_with before.domain before.plan taken)
    → Outcome capacity (state_with before.domain before.plan taken) c w after
