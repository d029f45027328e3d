use Rattle.std.proofs.Common.{◌-◌, ◌≤◌, length}
use Rattle.semantics.specs.Promise.{History, state}
use Rattle.checker.proofs.Turns.{Sofar}
use Rattle.checker.proofs.checker.Checker.run.Given as goal
use Rattle.checker.specs.Meaning.{held, Means}

-- Whatever lines led to the checker, the run has come so far, and the next line begins within the text or there is none.
abbrev pub invariant-loop-next : goal.invariant-loop-next
invariant-loop-next g l =
    (l.next ≤ length l.initial.text)
    × (l.written ≤ length l.initial.page)
    × ((past : History) → Means (held (g.K.Keeper.before l.initial.self.keeper) l.initial.self) (state g.K.Keeper.CAPACITY past)
    → Sofar g.K.Keeper.CAPACITY past l.initial.text l.initial.page l.next l.written l.page (held (g.K.Keeper.before l.self.keeper) l.self))

-- what is left of the text
abbrev pub decreases-loop-next : goal.decreases-loop-next
decreases-loop-next g l = length l.initial.text - l.next
