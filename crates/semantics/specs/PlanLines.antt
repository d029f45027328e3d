-- The lines that decompose, judge and follow a plan: their causes after the phase.
use Rattle.std.specs.Prelude.{ℕ, ◌+◌, Bool, true, false, cond, not, ◌&&◌, ◌||◌, List, [], ◌∷◌, length, Some, None, Option, ◌==◌, nat_lt, is_some}
use Rattle.std.specs.List.{slice_get}
use Rattle.semantics.specs.Causes.{Cause, first_found, first_such, nameless, returned, when}
use Rattle.semantics.specs.Decomposing.{decompose_step, links_after, upfrom}
use Rattle.semantics.specs.Facts.{among}
use Rattle.semantics.specs.Methods.{Method}
use Rattle.semantics.specs.OpenLines.{is_step}
use Rattle.semantics.specs.Plans.{Plan, steps_of, task_of}
use Rattle.semantics.specs.Tasks.{adds_of, deletes_of, is_primitive, needs_of, Task}
use Rattle.semantics.specs.declared.link.Link.{Link}

-- 7 at X: the method is another task's
abbrev pub other_task : Option (Option ℕ) → Option Method → Bool
other_task (Some (Some t)) (Some m) = not (t == m.task)
other_task None m = true
other_task (Some None) m = true
other_task (Some (Some t)) None = true

-- 10 at X: step numbers or links would be too many; links that become equal are counted once
abbrev pub too_many : ℕ → Plan → ℕ → Option Method → Bool
too_many capacity p s None = false
too_many capacity p s (Some m) = nat_lt capacity (length p.steps + length m.steps) || nat_lt 256 (length (links_after p s m))

-- 11 at X: a step would be before itself
abbrev pub circular : List Task → Plan → ℕ → Option Method → Bool
circular ts p s None = false
circular ts p s (Some m) = not (is_some (decompose_step ts p s m))

-- 14: the lowest compound step
abbrev pub compound_step : List Task → Plan → Option (ℕ × ℕ × ℕ)
compound_step ts p = returned (first_such (λ s. not (is_primitive (task_of ts p s))) (steps_of p))

abbrev pub lower_of : ℕ → Option ℕ → Option ℕ
lower_of x None = Some x
lower_of x (Some y) = Some (cond (nat_lt x y) x y)

-- the producer of need j of step s: the lowest linked step, or none
abbrev pub producer : List Link → ℕ → ℕ → Option ℕ
producer [] s j = None
producer (l ∷ ls) s j = cond (l.consumer == s && l.need == j) (lower_of l.producer (producer ls s j)) (producer ls s j)

-- 15: the lowest step with a need that has no producer, and its lowest such need
abbrev pub unlinked_at : List Task → Plan → ℕ → Option ℕ
unlinked_at ts p s = first_such (λ j. not (is_some (producer p.links s j))) (upfrom 0 (length (needs_of (task_of ts p s))))

abbrev pub at_label : Option (ℕ × ℕ) → Option (ℕ × ℕ × ℕ)
at_label None = None
at_label (Some v) = Some (v.0, v.1, 0)

abbrev pub need_unlinked : List Task → Plan → Option (ℕ × ℕ × ℕ)
need_unlinked ts p = at_label (first_found (unlinked_at ts p) (steps_of p))

abbrev pub holds_fact : Option ℕ → List ℕ → Bool
holds_fact None fs = false
holds_fact (Some f) fs = among f fs

-- Step s threatens the link: another step than its ends, it deletes the link's fact, and it is neither before the producer nor
-- after the consumer.
abbrev pub threatens : List Task → Plan → ℕ → Link → Bool
threatens ts p s l =
    holds_fact (slice_get (adds_of (task_of ts p l.producer)) l.add) (deletes_of (task_of ts p s))
    && (not (s == l.producer) && (not (s == l.consumer) && (not (p.before s l.producer) && not (p.before l.consumer s))))

-- lower by producer, then by consumer
abbrev pub lower : Link → Link → Bool
lower k l = nat_lt k.producer l.producer || (k.producer == l.producer && nat_lt k.consumer l.consumer)

abbrev pub lowest_with : Bool → Link → Option Link → Option Link
lowest_with false l o = o
lowest_with true l None = Some l
lowest_with true l (Some k) = Some (cond (lower k l) k l)

-- the lowest link that passes a test
abbrev pub lowest_link : (Link → Bool) → List Link → Option Link
lowest_link test [] = None
lowest_link test (l ∷ ls) = lowest_with (test l) l (lowest_link test ls)

abbrev pub with_ends : Option (ℕ × Link) → Option (ℕ × ℕ × ℕ)
with_ends None = None
with_ends (Some v) = Some (v.0, v.1.producer, v.1.consumer)

-- 16: the lowest threat, with the lowest producer and consumer of a link that it threatens
abbrev pub threat : List Task → Plan → Option (ℕ × ℕ × ℕ)
threat ts p = with_ends (first_found (λ s. lowest_link (threatens ts p s) p.links) (steps_of p))

-- 13: the lowest step before s that is untaken
abbrev pub untaken_before : Plan → List ℕ → ℕ → Option (ℕ × ℕ × ℕ)
untaken_before p taken s = returned (first_such (λ x. p.before x s && not (among x taken)) (steps_of p))

-- X: step s by method m, for a plan with so many step numbers
abbrev pub decompose_causes : ℕ → List Task → List Method → Plan → ℕ → ℕ → List Cause
decompose_causes capacity ts ms p s m =
    (6, nameless 1 (is_step p.steps s ∷ nat_lt m (length ms) ∷ []))
    ∷ (7, when (other_task (slice_get p.steps s) (slice_get ms m)))
    ∷ (10, when (too_many capacity p s (slice_get ms m)))
    ∷ (11, when (circular ts p s (slice_get ms m)))
    ∷ []

-- J: the three criteria, in their order
abbrev pub judge_causes : List Task → Plan → List Cause
judge_causes ts p =
    (14, compound_step ts p)
    ∷ (15, need_unlinked ts p)
    ∷ (16, threat ts p)
    ∷ []

-- R: by order alone
abbrev pub take_causes : Plan → List ℕ → ℕ → List Cause
take_causes p taken s =
    (6, nameless 1 (is_step p.steps s ∷ []))
    ∷ (8, when (among s taken))
    ∷ (13, untaken_before p taken s)
    ∷ []
