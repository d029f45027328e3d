-- An accepted line of an open method keeps what is told of it fitting.
use Rattle.std.proofs.Common.{◌≡◌, ℕ, false, ltb, leb, List, [], ◌∷◌, map, length, Some, Option, sym, refl, ap, ◌∙◌, inl, inr, ⊎_elim, arith}
use Rattle.std.proofs.lemmas.List.{length-map}
use Rattle.std.proofs.lemmas.Bool.{ltb-true}
use Rattle.std.specs.List.{slice_get}
use Rattle.semantics.specs.Causes.{first_of, when}
use Rattle.semantics.specs.Drafts.{Draft}
use Rattle.semantics.specs.Methods.{add_entry, blank, Fits, link_of, Method, need_entry, order_of, step_of}
use Rattle.semantics.specs.OpenLines.{add_entry_causes, close_causes, link_causes, method_causes, need_entry_causes, order_causes, step_causes, unentered}
use Rattle.semantics.specs.States.{opening_plan, State}
use Rattle.semantics.specs.Tasks.{adds_of, is_primitive, needs_of, Task}
use Rattle.semantics.specs.declared.link.Link.{Link}
use Rattle.semantics.specs.declared.phase.Phase.TheVariants.{MethodOpen}
use Rattle.semantics.proofs.Allowed.{PlanOpen}
use Rattle.semantics.proofs.Careful.{at_add_goes, at_link, at_need_goes, at_order, at_step, both_none, entered}
use Rattle.semantics.proofs.Good.{draft_add, draft_blank, draft_link, draft_need, draft_order, draft_step, draft_whole}
use Rattle.semantics.proofs.Inherited.{nth_there}
use Rattle.semantics.proofs.Searches.{clear, named, when_none}

-- the rules at an open method
abbrev while_open : List Task → Method → State
while_open ts m = record { phase = MethodOpen; tasks = ts; methods = []; draft = m; plan = opening_plan; taken = [] }

not_plan : PlanOpen MethodOpen → ⊥
not_plan (inl e) = let w : ⊥ = grind arith in absurd w
not_plan (inr e) = let w : ⊥ = grind arith in absurd w

module _ (ts : List Task) where
  pub opened_draft : (count t : ℕ) → (first_of (method_causes ts count t) count).code ≡ 0 → Draft ts (blank t)
  opened_draft count t e =
      let c = clear (method_causes ts count t) count refl e in
      let u = nth_there ts t (ltb-true t (length ts) (named 1 (ltb t (length ts) ∷ []) c.0).0) in
      let plain : is_primitive (slice_get ts t) ≡ false = when_none (is_primitive (slice_get ts t)) c.1.0 in
      draft_blank ts t u.0 u.1 (ap is_primitive (sym u.1) ∙ plain)

  module _ (m : Method) where
    pub kept_step : (t n : ℕ) → (first_of (step_causes ts (length m.steps) 8 t) n).code ≡ 0 → Draft ts m → Draft ts (step_of m t)
    kept_step t n e d =
        let c = clear (step_causes ts (length m.steps) 8 t) n refl e in
        let few = ap (λ (k : ℕ). when (leb 8 k)) (length-map m.steps Some) ∙ c.1.1.0 in
        let a = at_step 8 (while_open ts m) t (refl, (c.0, (c.1.0, (few, tt)))) in
        draft_step ts m t a.0.0 a.0.1 a.2 d

    pub kept_order : (p q n : ℕ) → (first_of (order_causes (map Some m.steps) m.before p q) n).code ≡ 0 → Draft ts m → Draft ts (order_of m p q)
    kept_order p q n e d =
        let c = clear (order_causes (map Some m.steps) m.before p q) n refl e in
        ⊎_elim (λ a. draft_order ts m p q a.1 a.2 a.3 a.4 d) (λ a. absurd (not_plan a.0)) (at_order 8 (while_open ts m) p q (refl, c))

    pub kept_link : (l : Link) (n : ℕ) → (first_of (link_causes ts (map Some m.steps) m.links m.before 16 l) n).code ≡ 0 → Draft ts m → Draft ts (link_of ts m l)
    kept_link l n e d =
        let c = clear (link_causes ts (map Some m.steps) m.links m.before 16 l) n refl e in
        ⊎_elim (λ a. draft_link ts m l a.1 a.2 a.3 d) (λ a. absurd (not_plan a.0))
        (at_link 8 (while_open ts m) l.producer l.add l.consumer l.need (refl, c))

    pub kept_need : (j s k n : ℕ) → (first_of (need_entry_causes ts m j s k) n).code ≡ 0 → Draft ts m → Draft ts (need_entry m j (s, k))
    kept_need j s k n e d =
        let a = at_need_goes 8 (while_open ts m) j s k (refl, clear (need_entry_causes ts m j s k) n refl e) in
        draft_need ts m a.1.0 j (s, k) a.1.1 a.1.2 d

    pub kept_add : (i s k n : ℕ) → (first_of (add_entry_causes ts m i s k) n).code ≡ 0 → Draft ts m → Draft ts (add_entry m i (s, k))
    kept_add i s k n e d =
        let a = at_add_goes 8 (while_open ts m) i s k (refl, clear (add_entry_causes ts m i s k) n refl e) in
        draft_add ts m a.1.0 i (s, k) a.1.1 a.1.2 d

    -- a method that may be closed fits
    pub closed_fits : (n : ℕ) → (first_of (close_causes ts m) n).code ≡ 0 → Draft ts m → Fits ts m
    closed_fits n e d =
        let c = clear (close_causes ts m) n refl e in
        let own : Option Task = slice_get ts m.task in
        let b = both_none 8 (while_open ts m) (unentered (needs_of own) m.needs_go) (unentered (adds_of own) m.adds_go) c.0 in
        draft_whole ts m d.task d.is_task
        (λ j f l. entered 8 (while_open ts m) (needs_of own) m.needs_go b.0 j f (ap (λ (o : Option Task). slice_get (needs_of o) j) d.is_task ∙ l))
        (λ j f l. entered 8 (while_open ts m) (adds_of own) m.adds_go b.1 j f (ap (λ (o : Option Task). slice_get (adds_of o) j) d.is_task ∙ l))
        d
