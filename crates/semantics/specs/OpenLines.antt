-- The lines that tell methods, and steps, pairs and links of a method or a plan: their causes after the phase.
use Rattle.std.specs.Prelude.{ℕ, Bool, true, false, not, ◌&&◌, ◌||◌, List, [], ◌∷◌, map, length, Some, None, Option, ◌==◌, nat_le, nat_lt, is_some}
use Rattle.std.specs.List.{slice_get}
use Rattle.semantics.specs.Causes.{Cause, first_such, nameless, when}
use Rattle.semantics.specs.Decomposing.{upfrom}
use Rattle.semantics.specs.Methods.{Method, own_task_of}
use Rattle.semantics.specs.Orders.{Relation}
use Rattle.semantics.specs.Plans.{at_task, has_link}
use Rattle.semantics.specs.Tasks.{adds_of, is_primitive, needs_of, Task}
use Rattle.semantics.specs.declared.link.Link.{Link}

-- two ends name different facts
abbrev pub differ : Option ℕ → Option ℕ → Bool
differ (Some f) (Some g) = not (f == g)
differ None g = true
differ (Some f) None = true

abbrev pub there : Option (Option ℕ) → Bool
there None = false
there (Some None) = false
there (Some (Some t)) = true

-- s is a present step
abbrev pub is_step : List (Option ℕ) → ℕ → Bool
is_step ss s = there (slice_get ss s)

-- the task of step s, of these steps
abbrev pub task_at : List Task → List (Option ℕ) → ℕ → Option Task
task_at ts ss s = at_task ts (slice_get ss s)

-- M: the task is compound; at most 32 methods
abbrev pub method_causes : List Task → ℕ → ℕ → List Cause
method_causes ts count t =
    (6, nameless 1 (nat_lt t (length ts) ∷ []))
    ∷ (7, when (is_primitive (slice_get ts t)))
    ∷ (10, when (nat_le 32 count))
    ∷ []

-- S: the task is neither init (0) nor goal (1); there are so many steps, and at most `limit`
abbrev pub step_causes : List Task → ℕ → ℕ → ℕ → List Cause
step_causes ts count limit t =
    (6, nameless 1 (nat_lt t (length ts) ∷ []))
    ∷ (7, when (t == 0 || t == 1))
    ∷ (10, when (nat_le limit count))
    ∷ []

-- O: among these steps, in this order
abbrev pub order_causes : List (Option ℕ) → Relation → ℕ → ℕ → List Cause
order_causes ss R p q =
    (6, nameless 1 (is_step ss p ∷ is_step ss q ∷ []))
    ∷ (11, when (p == q || R q p))
    ∷ []

-- L: among these steps, links and in this order; at most `limit` links
abbrev pub link_causes : List Task → List (Option ℕ) → List Link → Relation → ℕ → Link → List Cause
link_causes ts ss ls R limit l =
    (6, nameless 1 (is_step ss l.producer ∷ nat_lt l.add (length (adds_of (task_at ts ss l.producer))) ∷ is_step ss l.consumer ∷ nat_lt l.need (length (needs_of (task_at ts ss l.consumer))) ∷ []))
    ∷ (9, when (differ (slice_get (adds_of (task_at ts ss l.producer)) l.add) (slice_get (needs_of (task_at ts ss l.consumer)) l.need)))
    ∷ (10, when (not (has_link l ls) && nat_le limit (length ls)))
    ∷ (11, when (l.producer == l.consumer || (is_primitive (task_at ts ss l.producer) && (is_primitive (task_at ts ss l.consumer) && R l.consumer l.producer))))
    ∷ []

-- U: need j of the method's task goes to need k of its step s
abbrev pub need_entry_causes : List Task → Method → ℕ → ℕ → ℕ → List Cause
need_entry_causes ts m j s k =
    (6, nameless 1 (nat_lt j (length (needs_of (slice_get ts m.task))) ∷ is_step (map Some m.steps) s ∷ nat_lt k (length (needs_of (own_task_of ts m s))) ∷ []))
    ∷ (8, when (is_some (m.needs_go j)))
    ∷ (9, when (differ (slice_get (needs_of (slice_get ts m.task)) j) (slice_get (needs_of (own_task_of ts m s)) k)))
    ∷ []

-- V: add i of the method's task goes to add k of its step s
abbrev pub add_entry_causes : List Task → Method → ℕ → ℕ → ℕ → List Cause
add_entry_causes ts m i s k =
    (6, nameless 1 (nat_lt i (length (adds_of (slice_get ts m.task))) ∷ is_step (map Some m.steps) s ∷ nat_lt k (length (adds_of (own_task_of ts m s))) ∷ []))
    ∷ (8, when (is_some (m.adds_go i)))
    ∷ (9, when (differ (slice_get (adds_of (slice_get ts m.task)) i) (slice_get (adds_of (own_task_of ts m s)) k)))
    ∷ []

-- 12: the lowest label without an entry, needs first
abbrev pub unentered : List ℕ → (ℕ → Option (ℕ × ℕ)) → Option ℕ
unentered fs go = first_such (λ k. not (is_some (go k))) (upfrom 0 (length fs))

abbrev pub needs_then_adds : Option ℕ → Option ℕ → Option (ℕ × ℕ × ℕ)
needs_then_adds (Some j) o = Some (0, j, 0)
needs_then_adds None (Some i) = Some (1, i, 0)
needs_then_adds None None = None

abbrev pub entry_missing : List Task → Method → Option (ℕ × ℕ × ℕ)
entry_missing ts m = needs_then_adds (unentered (needs_of (slice_get ts m.task)) m.needs_go) (unentered (adds_of (slice_get ts m.task)) m.adds_go)

-- K
abbrev pub close_causes : List Task → Method → List Cause
close_causes ts m = (12, entry_missing ts m) ∷ []
