-- Before the plan is told, every command is the domain's.
use Rattle.std.proofs.Common.{◌≡◌, Bool, true, false, cond, eqb, refl, arith}
use Rattle.line.specs.declared.command.Command.{Command}
use Rattle.page.specs.declared.answer.Row.{Row}
use Rattle.semantics.specs.Causes.{told}
use Rattle.semantics.specs.States.{State}
use Rattle.semantics.specs.declared.phase.Phase.{Phase}
use Rattle.told_domain.specs.Domains.{of_domain}
use Rattle.visit.specs.Sessions.{before_plan, domain_of}

pub of_domain_before : (ph : Phase) (c : Command) → before_plan ph ≡ true → of_domain ph c ≡ true
of_domain_before ph c h = grind arith

-- the domain of what is told
pub told_domain_of : (w : Row) (new old : State) → domain_of (told w new old) ≡ told w (domain_of new) (domain_of old)
told_domain_of w new old = at (eqb w.code 0)
  where
    at : (b : Bool) → domain_of (cond b new old) ≡ cond b (domain_of new) (domain_of old)
    at true = refl
    at false = refl
