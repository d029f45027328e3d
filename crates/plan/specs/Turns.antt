-- The parts of the searches of judging: one turn of a loop, or what is found at one step. The rules themselves are in semantics,
-- and each public function is held to those.
use Rattle.std.specs.Prelude.{ℕ, Bool, not, List, length, Some, None, Option, is_some}
use Rattle.std.specs.List.{slice_get}
use Rattle.semantics.specs.Causes.{first_such}
use Rattle.semantics.specs.Decomposing.{upfrom}
use Rattle.semantics.specs.PlanLines.{lowest_link, producer, threatens}
use Rattle.semantics.specs.Plans as planned
use Rattle.semantics.specs.Plans.{at_task}
use Rattle.semantics.specs.Tasks.{Task, is_primitive, needs_of}
use Rattle.semantics.specs.declared.link.Link.{Link}

-- what is found at a step that is present
abbrev pub if_present : {Y : Type 0} → Option (Option ℕ) → Option Y → Option Y
if_present None found = None
if_present (Some None) found = None
if_present (Some (Some t)) found = found

abbrev pub at_step : {Y : Type 0} → List (Option ℕ) → (ℕ → Option Y) → ℕ → Option Y
at_step os find s = if_present (slice_get os s) (find s)

-- whether step s is not primitive, among these steps
abbrev pub is_compound : List Task → List (Option ℕ) → ℕ → Bool
is_compound ts os s = not (is_primitive (at_task ts (slice_get os s)))

-- whether no link goes to need j of step s
abbrev pub no_producer : List Link → ℕ → ℕ → Bool
no_producer ls s j = not (is_some (producer ls s j))

-- the lowest of `count` needs of step s that no link goes to
abbrev pub unlinked : List Link → ℕ → ℕ → Option ℕ
unlinked ls count s = first_such (no_producer ls s) (upfrom 0 count)

-- the lowest need of step s that no link goes to
abbrev pub unlinked_of : List Task → List (Option ℕ) → List Link → ℕ → Option ℕ
unlinked_of ts os ls s = unlinked ls (length (needs_of (at_task ts (slice_get os s)))) s

-- a number with what is found for it
abbrev pub paired : {Y : Type 0} → ℕ → Option Y → Option (ℕ × Y)
paired s None = None
paired s (Some y) = Some (s, y)

-- the lowest link that step s threatens
abbrev pub threatened : List Task → planned.Plan → ℕ → Option Link
threatened ts p s = lowest_link (threatens ts p s) p.links
