-- The causes of L in two parts: by what its fields name, and by what the list of links and the order hold already.
use Rattle.std.specs.Prelude.{ℕ, Bool, not, ◌&&◌, ◌||◌, List, [], ◌∷◌, length, Some, None, Option, Ok, Err, Result, ◌==◌, nat_le, nat_lt}
use Rattle.std.specs.List.{slice_get}
use Rattle.page.specs.Answers.{as_row, refusal_row}
use Rattle.page.specs.declared.answer.Refusal.{Refusal}
use Rattle.page.specs.declared.answer.Row.{Row}
use Rattle.semantics.specs.Causes.{Cause, nameless, when}
use Rattle.semantics.specs.OpenLines.{differ, is_step, task_at}
use Rattle.semantics.specs.Orders.{Relation}
use Rattle.semantics.specs.Plans.{has_link}
use Rattle.semantics.specs.Tasks.{adds_of, needs_of, Task}
use Rattle.semantics.specs.declared.link.Link.{Link}

-- the row of a cause, if it applies, and else the later one
abbrev pub or_later : ℕ → Option (ℕ × ℕ × ℕ) → Option Row → Option Row
or_later n None later = later
or_later n (Some v) later = Some (as_row n v.0 v.1 v.2)

-- the row of the first cause that applies, if one does
abbrev pub first_cause : List Cause → Option Row
first_cause [] = None
first_cause (r ∷ rs) = or_later r.0 r.1 (first_cause rs)

-- the row of a refusal, where there is one
abbrev pub refused : {X : Type 0} → Result X Refusal → Option Row
refused (Ok x) = None
refused (Err refusal) = Some (refusal_row refusal)

-- by what the fields name: whether each names something, and the facts at both ends
abbrev pub ends : Bool → Bool → Bool → Bool → Option ℕ → Option ℕ → List Cause
ends producer add consumer need given wanted =
    (6, nameless 1 (producer ∷ add ∷ consumer ∷ need ∷ []))
    ∷ (9, when (differ given wanted))
    ∷ []

-- the same for a link among these steps
abbrev pub end_causes : List Task → List (Option ℕ) → Link → List Cause
end_causes ts ss l =
    ends (is_step ss l.producer) (nat_lt l.add (length (adds_of (task_at ts ss l.producer))))
    (is_step ss l.consumer) (nat_lt l.need (length (needs_of (task_at ts ss l.consumer))))
    (slice_get (adds_of (task_at ts ss l.producer)) l.add) (slice_get (needs_of (task_at ts ss l.consumer)) l.need)

-- whether a list of at most `limit` links has no room for the link; one that stands there needs none
abbrev pub is_full : ℕ → List Link → Link → Bool
is_full limit ls l = not (has_link l ls) && nat_le limit (length ls)

-- by what is there already; `ordered`: both ends are primitive
abbrev pub room_causes : List Link → Relation → ℕ → Link → Bool → List Cause
room_causes ls R limit l ordered =
    (10, when (is_full limit ls l))
    ∷ (11, when (l.producer == l.consumer || (ordered && R l.consumer l.producer)))
    ∷ []
