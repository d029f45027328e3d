use Rattle.std.proofs.Common.{◌≡◌}
use Rattle.std.specs.Iterator.Adapters.{enumerate_source}
use Rattle.page.specs.Lines.{lines}
use Rattle.page.specs.Reading.{lines_left}
use Rattle.told_domain.specs.Domains.{parts}
use Rattle.visit.proofs.tell_all.Given as goal
use Rattle.visit.specs.Sessions.{lines_after}

-- The lines that are left, told from here, leave what all lines leave.
abbrev pub invariant-loop-index : goal.invariant-loop-index
invariant-loop-index l =
    (goal.iterator-loop-index).can_next l.index-iterator
    × (goal.iterator-loop-index).is_finite l.index-iterator
    × (lines_after (parts l.session.domain) (lines_left (enumerate_source l.index-iterator)) ≡ lines_after (parts l.initial.session.domain) (lines l.initial.text))
