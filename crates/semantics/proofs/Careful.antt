-- The answers of the rules are careful: what they accept is allowed, every take line that is allowed is accepted, and a threat that they name is one.
use Rattle.std.proofs.Common.{◌≡◌, ℕ, zero, suc, ◌≤◌, Bool, true, false, not, ◌&&◌, ◌||◌, eqb, ltb, ◌⊎◌, List, [], ◌∷◌, map, length, Some, None, Option, sym, refl, ap, ◌∙◌, subst, inl, inr, ⊎_elim, arith, is_some}
use Rattle.std.proofs.lemmas.Bool.{and_from, and_parts, both_ways, cases_Bool, eq-eqb, eqb-false, ltb-true, ne_eqb, not-false, or_parts}
use Rattle.std.specs.List.{slice_get}
use Rattle.line.specs.declared.command.Command.{Command}
use Rattle.line.specs.declared.command.Command.TheVariants.{AppendAdd, AppendDelete, AppendNeed, CloseMethod, Decompose, EndPhase, Judge, NewCompound, NewPrimitive, NewStep, OpenMethod, PutLink, PutOrder, RouteAdd, RouteNeed, Take}
use Rattle.page.specs.declared.answer.Row.{Row}
use Rattle.semantics.specs.Causes.{first_found, first_of, nameless, returned}
use Rattle.semantics.specs.Decomposing.{decompose_step, upfrom}
use Rattle.semantics.specs.Facts.{among}
use Rattle.semantics.specs.Methods.{own_task_of}
use Rattle.semantics.specs.OpenLines.{differ, is_step, needs_then_adds, unentered}
use Rattle.semantics.specs.Orders.{Holds, In}
use Rattle.semantics.specs.PlanLines.{at_label, circular, compound_step, holds_fact, lowest_link, need_unlinked, other_task, producer, threat, threatens, unlinked_at, untaken_before, with_ends}
use Rattle.semantics.specs.Plans.{at_task, Executable, Linked, Plan, primitive_at, Protects, steps_of, task_of, Threat}
use Rattle.semantics.specs.Rules.{causes, number_told, open_one, order_now, outside, steps_now, verdict}
use Rattle.semantics.specs.States.{State}
use Rattle.semantics.specs.Tasks.{adds_of, deletes_of, is_primitive, Labelled, needs_of, Task}
use Rattle.semantics.specs.declared.link.Link.{Link}
use Rattle.semantics.specs.declared.phase.Phase.{Phase}
use Rattle.semantics.specs.declared.phase.Phase.TheVariants.{Initial, MethodOpen, Methods, Refine, Running, Tasks}
use Rattle.semantics.proofs.Allowed.{Allowed, Careful, Lawful, method_task, PlanOpen, task_now}
use Rattle.semantics.proofs.Decomposing.{upfrom_in}
use Rattle.semantics.proofs.Inherited.{nth_below, nth_there}
use Rattle.semantics.proofs.Plans.{among_in, in_among, step_in}
use Rattle.semantics.proofs.Searches.{adds_some, all_clear, Clear, clear, found_none, found_some, in_is_step, inside, lowest_none, lowest_some, method_of, named, needs_some, none_such, none_when, own_below, producer_linked, same_fact, some_of, step_is_in, such_none, when_none}

in_tasks : (ph : Phase) → outside ph (Tasks ∷ []) ≡ None → ph ≡ Tasks
in_tasks ph h = ⊎_elim (λ e. e) (λ z. absurd z) (inside ph (Tasks ∷ []) h)

in_methods : (ph : Phase) → outside ph (Methods ∷ []) ≡ None → ph ≡ Methods
in_methods ph h = ⊎_elim (λ e. e) (λ z. absurd z) (inside ph (Methods ∷ []) h)

in_method : (ph : Phase) → outside ph (MethodOpen ∷ []) ≡ None → ph ≡ MethodOpen
in_method ph h = ⊎_elim (λ e. e) (λ z. absurd z) (inside ph (MethodOpen ∷ []) h)

in_refine : (ph : Phase) → outside ph (Refine ∷ []) ≡ None → ph ≡ Refine
in_refine ph h = ⊎_elim (λ e. e) (λ z. absurd z) (inside ph (Refine ∷ []) h)

in_running : (ph : Phase) → outside ph (Running ∷ []) ≡ None → ph ≡ Running
in_running ph h = ⊎_elim (λ e. e) (λ z. absurd z) (inside ph (Running ∷ []) h)

in_open : (ph : Phase) → outside ph (MethodOpen ∷ Initial ∷ Refine ∷ []) ≡ None → (ph ≡ MethodOpen) ⊎ PlanOpen ph
in_open ph h = ⊎_elim (λ e. inl e) (λ z. ⊎_elim (λ e. inr (inl e)) (λ y. ⊎_elim (λ e. inr (inr e)) (λ x. absurd x) y) z) (inside ph (MethodOpen ∷ Initial ∷ Refine ∷ []) h)

-- in the phases of the plan, what is open is the plan's
open_plan : {X : Type 0} (ph : Phase) (m p : X) → PlanOpen ph → open_one ph m p ≡ p
open_plan ph m p (inl e) = ap (λ (q : Phase). open_one q m p) e
open_plan ph m p (inr e) = ap (λ (q : Phase). open_one q m p) e

open_method : {X : Type 0} (ph : Phase) (m p : X) → ph ≡ MethodOpen → open_one ph m p ≡ m
open_method ph m p e = ap (λ (q : Phase). open_one q m p) e

above_one : (t : ℕ) → (t ≡ 0 → ⊥) → (t ≡ 1 → ⊥) → 2 ≤ t
above_one zero a b = absurd (a refl)
above_one (suc zero) a b = absurd (b refl)
above_one (suc (suc t)) a b = omega arith

not_primitive : (o : Option Task) (u : Task) → o ≡ Some u → is_primitive o ≡ false → u.primitive ≡ false
not_primitive o u e h = ap is_primitive (sym e) ∙ h

module _ (capacity : ℕ) (st : State) where
  ts : List Task
  ts = st.tasks

  known_task : (t : ℕ) → ltb t (length st.tasks) ≡ true → (u : Task) × (slice_get st.tasks t ≡ Some u)
  known_task t h = nth_there st.tasks t (ltb-true t (length st.tasks) h)

  plan_steps : PlanOpen st.phase → steps_now st ≡ st.plan.steps
  plan_steps o = open_plan st.phase (map Some st.draft.steps) st.plan.steps o

  own_steps : st.phase ≡ MethodOpen → steps_now st ≡ map Some st.draft.steps
  own_steps e = open_method st.phase (map Some st.draft.steps) st.plan.steps e

  -- the task of a step, by the steps that are open
  by_steps : (os : List (Option ℕ)) → steps_now st ≡ os → (x : ℕ) (u : Task) → task_now st x ≡ Some u → at_task st.tasks (slice_get os x) ≡ Some u
  by_steps os e x u h = ap (λ (ks : List (Option ℕ)). at_task st.tasks (slice_get ks x)) (sym e) ∙ h

  plan_order : PlanOpen st.phase → order_now st ≡ st.plan.before
  plan_order o = open_plan st.phase st.draft.before st.plan.before o

  own_order : st.phase ≡ MethodOpen → order_now st ≡ st.draft.before
  own_order e = open_method st.phase st.draft.before st.plan.before e

  pub at_step : (t : ℕ) → Clear (causes capacity st (NewStep t)) → Allowed st (NewStep t)
  at_step t c = (
    known_task t (named 1 (ltb t (length st.tasks) ∷ []) c.1.0).0,
    ⊎_elim (λ e. inl e) (λ z. ⊎_elim (λ e. inr e) (λ y. absurd y) z) (inside st.phase (MethodOpen ∷ Initial ∷ []) c.0),
    (let z = or_parts (eqb t 0) (eqb t 1) (when_none (eqb t 0 || eqb t 1) c.1.1.0) in let a = eqb-false t 0 z.0 in let b = eqb-false t 1 z.1 in above_one t a b),
  )

  pub at_order : (p q : ℕ) → Clear (causes capacity st (PutOrder p q)) → Allowed st (PutOrder p q)
  at_order p q c =
      let ns = named 1 (is_step (steps_now st) p ∷ is_step (steps_now st) q ∷ []) c.1.0 in
      let np : is_step (steps_now st) p ≡ true = ns.0 in
      let nq : is_step (steps_now st) q ≡ true = ns.1.0 in
      let free = or_parts (eqb p q) (order_now st q p) (when_none (eqb p q || order_now st q p) c.1.1.0) in
      ⊎_elim
      (λ e. let s = own_steps e in inl (
        e,
        own_below st.draft.steps p (ap (λ (os : List (Option ℕ)). is_step os p) (sym s) ∙ np),
        own_below st.draft.steps q (ap (λ (os : List (Option ℕ)). is_step os q) (sym s) ∙ nq),
        eqb-false p q free.0,
        λ h. both_ways (st.draft.before q p) (ap (λ (R : ℕ → ℕ → Bool). R q p) (sym (own_order e)) ∙ free.1) h,
      ))
      (λ o. let s = plan_steps o in inr (
        o,
        step_is_in st.plan.steps p (ap (λ (os : List (Option ℕ)). is_step os p) (sym s) ∙ np),
        step_is_in st.plan.steps q (ap (λ (os : List (Option ℕ)). is_step os q) (sym s) ∙ nq),
        eqb-false p q free.0,
        λ h. both_ways (st.plan.before q p) (ap (λ (R : ℕ → ℕ → Bool). R q p) (sym (plan_order o)) ∙ free.1) h,
      ))
      (in_open st.phase c.0)

  -- a link between primitive steps of the open method does not run against its order
  own_free : (p q : ℕ) → (is_primitive (task_now st p) && (is_primitive (task_now st q) && order_now st q p)) ≡ false → st.phase ≡ MethodOpen
      → (primitive_at st.tasks (map Some st.draft.steps) p && primitive_at st.tasks (map Some st.draft.steps) q) ≡ true → Holds st.draft.before q p → ⊥
  own_free p q free e both h =
      let s = own_steps e in
      let b = and_parts _ _ both in
      let x : is_primitive (task_now st p) ≡ true = ap (λ (os : List (Option ℕ)). primitive_at st.tasks os p) s ∙ b.0 in
      let y : is_primitive (task_now st q) ≡ true = ap (λ (os : List (Option ℕ)). primitive_at st.tasks os q) s ∙ b.1 in
      let z : order_now st q p ≡ true = ap (λ (R : ℕ → ℕ → Bool). R q p) (own_order e) ∙ h in
      both_ways _ free (and_from _ _ x (and_from _ _ y z))

  pub at_link : (p i q j : ℕ) → Clear (causes capacity st (PutLink p i q j)) → Allowed st (PutLink p i q j)
  at_link p i q j c =
      let free : (eqb p q || (is_primitive (task_now st p) && (is_primitive (task_now st q) && order_now st q p))) ≡ false = when_none _ c.1.1.1.1.0 in
      let f = same_fact (adds_of (task_now st p)) (needs_of (task_now st q)) i j (when_none (differ (slice_get (adds_of (task_now st p)) i) (slice_get (needs_of (task_now st q)) j)) c.1.1.0) in
      let u = adds_some (task_now st p) i f.0 f.1 in
      let v = needs_some (task_now st q) j f.0 f.2 in
      ⊎_elim
      (λ e. let s = own_steps e in inl (
        e,
        (f.0, u.0, v.0, by_steps _ s p u.0 u.1, by_steps _ s q v.0 v.1, u.2, v.2),
        eqb-false p q (or_parts (eqb p q) _ free).0,
        λ both h. own_free p q (or_parts (eqb p q) (is_primitive (task_now st p) && (is_primitive (task_now st q) && order_now st q p)) free).1 e both h,
      ))
      (λ o. let s = plan_steps o in let r = plan_order o in inr (
        o,
        record {
          f = f.0;
          giver = u.0;
          taker = v.0;
          gives = by_steps _ s p u.0 u.1;
          takes = by_steps _ s q v.0 v.1;
          added = u.2;
          needed = v.2;
          apart = eqb-false p q (or_parts _ _ free).0;
          not_back = λ g t h.
              let a : is_primitive (task_now st p) ≡ true = ap is_primitive u.1 ∙ g in
              let b : is_primitive (task_now st q) ≡ true = ap is_primitive v.1 ∙ t in
              let k : order_now st q p ≡ true = ap (λ (R : ℕ → ℕ → Bool). R q p) r ∙ h in
              grind arith;
        },
      ))
      (in_open st.phase c.0)

  pub at_need_goes : (j s k : ℕ) → Clear (causes capacity st (RouteNeed j s k)) → Allowed st (RouteNeed j s k)
  at_need_goes j s k c =
      let e = in_method st.phase c.0 in
      let f = same_fact (needs_of (method_task st)) (needs_of (own_task_of st.tasks st.draft s)) j k (when_none (differ (slice_get (needs_of (method_task st)) j) (slice_get (needs_of (own_task_of st.tasks st.draft s)) k)) c.1.1.1.0) in
      let t = needs_some (method_task st) j f.0 f.1 in
      let u = needs_some (own_task_of st.tasks st.draft s) k f.0 f.2 in
      (e, (t.0, t.1, (f.0, u.0, u.1, u.2, t.2)))

  pub at_add_goes : (i s k : ℕ) → Clear (causes capacity st (RouteAdd i s k)) → Allowed st (RouteAdd i s k)
  at_add_goes i s k c =
      let e = in_method st.phase c.0 in
      let f = same_fact (adds_of (method_task st)) (adds_of (own_task_of st.tasks st.draft s)) i k (when_none (differ (slice_get (adds_of (method_task st)) i) (slice_get (adds_of (own_task_of st.tasks st.draft s)) k)) c.1.1.1.0) in
      let t = adds_some (method_task st) i f.0 f.1 in
      let u = adds_some (own_task_of st.tasks st.draft s) k f.0 f.2 in
      (e, (t.0, t.1, (f.0, u.0, u.1, u.2, t.2)))

  pub entered : (fs : List ℕ) (go : ℕ → Option (ℕ × ℕ)) → unentered fs go ≡ None → (j f : ℕ) → Labelled fs j f → (e : ℕ × ℕ) × (go j ≡ Some e)
  entered fs go h j f l =
      let b = nth_below fs j f l in
      some_of (go j) (not-false (is_some (go j)) (such_none (λ k. not (is_some (go k))) (upfrom 0 (length fs)) h j ((upfrom_in 0 (length fs) j).1 (omega arith, omega arith))))

  pub both_none : (o p : Option ℕ) → needs_then_adds o p ≡ None → (o ≡ None) × (p ≡ None)
  both_none None None h = (refl, refl)
  both_none None (Some i) h = let w : ⊥ = grind arith in absurd w
  both_none (Some j) p h = let w : ⊥ = grind arith in absurd w

  pub at_close : Lawful st → Clear (causes capacity st CloseMethod) → Allowed st CloseMethod
  at_close law c =
      let e = in_method st.phase c.0 in
      let t = law.own_task e in
      let b = both_none (unentered (needs_of (method_task st)) st.draft.needs_go) (unentered (adds_of (method_task st)) st.draft.adds_go) c.1.0 in (
        e,
        (
          t.0,
          t.1,
          λ j f l. entered (needs_of (method_task st)) st.draft.needs_go b.0 j f (ap (λ (o : Option Task). slice_get (needs_of o) j) t.1 ∙ l),
          λ j f l. entered (adds_of (method_task st)) st.draft.adds_go b.1 j f (ap (λ (o : Option Task). slice_get (adds_of o) j) t.1 ∙ l),
        ),
      )

  pub at_decompose : (s m : ℕ) → Clear (causes capacity st (Decompose s m)) → Allowed st (Decompose s m)
  at_decompose s m c =
      let r = method_of (slice_get st.plan.steps s) (slice_get st.methods m) (when_none (other_task (slice_get st.plan.steps s) (slice_get st.methods m)) c.1.1.0) in
      let x : circular st.tasks st.plan s (slice_get st.methods m) ≡ false = when_none _ c.1.1.1.1.0 in
      let y : circular st.tasks st.plan s (Some r.0) ≡ false = ap (circular st.tasks st.plan s) (sym r.1) ∙ x in
      (in_refine st.phase c.0, (r.0, r.1, r.2, some_of (decompose_step st.tasks st.plan s r.0) (not-false _ y)))

returned_none : (o : Option ℕ) → returned o ≡ None → o ≡ None
returned_none None h = refl
returned_none (Some x) h = let w : ⊥ = grind arith in absurd w

pub none_returned : (o : Option ℕ) → o ≡ None → returned o ≡ None
none_returned o h = ap returned h

label_none : (o : Option (ℕ × ℕ)) → at_label o ≡ None → o ≡ None
label_none None h = refl
label_none (Some x) h = let w : ⊥ = grind arith in absurd w

ends_none : (o : Option (ℕ × Link)) → with_ends o ≡ None → o ≡ None
ends_none None h = refl
ends_none (Some x) h = let w : ⊥ = grind arith in absurd w

pub ends_some : (o : Option (ℕ × Link)) (v : ℕ × ℕ × ℕ) → with_ends o ≡ Some v → (x : ℕ × Link) × (o ≡ Some x) × (v.0 ≡ x.0) × (v.1 ≡ x.1.producer) × (v.2 ≡ x.1.consumer)
ends_some None v h = let w : ⊥ = grind arith in absurd w
ends_some (Some x) v h =
    let q : (x.0, x.1.producer, x.1.consumer) ≡ v = cc in
    (x, refl, ap (λ (u : ℕ × ℕ × ℕ). u.0) (sym q), ap (λ (u : ℕ × ℕ × ℕ). u.1) (sym q), ap (λ (u : ℕ × ℕ × ℕ). u.2) (sym q))

module _ (ts : List Task) (p : Plan) where
  all_primitive : compound_step ts p ≡ None → (s : ℕ) (t : Task) → task_of ts p s ≡ Some t → t.primitive ≡ true
  all_primitive h s t e =
      let i = step_in ts p s t e in
      let k = such_none (λ x. not (is_primitive (task_of ts p x))) (steps_of p) (returned_none _ h) s i in
      ap is_primitive (sym e) ∙ not-false (is_primitive (task_of ts p s)) k

  all_linked : need_unlinked ts p ≡ None → (s : ℕ) (t : Task) → task_of ts p s ≡ Some t → (j f : ℕ) → Labelled t.needs j f
      → (l : Link) × Linked l p.links × (l.consumer ≡ s) × (l.need ≡ j)
  all_linked h s t e j f l =
      let i = step_in ts p s t e in
      let k : unlinked_at ts p s ≡ None = found_none (unlinked_at ts p) (steps_of p) (label_none _ h) s i in
      let b = nth_below t.needs j f l in
      let len : length (needs_of (task_of ts p s)) ≡ length t.needs = ap (λ (o : Option Task). length (needs_of o)) e in
      let m = such_none (λ x. not (is_some (producer p.links s x))) (upfrom 0 (length (needs_of (task_of ts p s)))) k j ((upfrom_in 0 (length (needs_of (task_of ts p s))) j).1 (omega arith, omega arith)) in
      producer_linked p.links s j (not-false _ m)

  -- the test is the definition
  pub threat_tested : (l : Link) (f s : ℕ) → Protects ts p l f → Threat ts p l f s → threatens ts p s l ≡ true
  threat_tested l f s pr th =
      let a : slice_get (adds_of (task_of ts p l.producer)) l.add ≡ Some f = ap (λ (o : Option Task). slice_get (adds_of o) l.add) pr.gives ∙ pr.added in
      let d : deletes_of (task_of ts p s) ≡ th.task.deletes = ap deletes_of th.is_step in
      let m : holds_fact (slice_get (adds_of (task_of ts p l.producer)) l.add) (deletes_of (task_of ts p s)) ≡ true =
      ap (λ (o : Option ℕ). holds_fact o (deletes_of (task_of ts p s))) a ∙ (ap (among f) d ∙ in_among f th.task.deletes th.deletes) in
      let n₁ = ne_eqb s l.producer th.not_producer in
      let n₂ = ne_eqb s l.consumer th.not_consumer in
      let n₃ = th.not_before in
      let n₄ = th.not_after in
      grind arith

  deletes_some : (o : Option Task) (f : ℕ) → among f (deletes_of o) ≡ true → (t : Task) × (o ≡ Some t) × In f t.deletes
  deletes_some None f h = let w : ⊥ = grind arith in absurd w
  deletes_some (Some t) f h = (t, refl, among_in f t.deletes h)

  pub tested_threat : (l : Link) (f s : ℕ) → Protects ts p l f → threatens ts p s l ≡ true → Threat ts p l f s
  tested_threat l f s pr h =
      let a : slice_get (adds_of (task_of ts p l.producer)) l.add ≡ Some f = ap (λ (o : Option Task). slice_get (adds_of o) l.add) pr.gives ∙ pr.added in
      let x = and_parts (holds_fact (slice_get (adds_of (task_of ts p l.producer)) l.add) (deletes_of (task_of ts p s))) (not (eqb s l.producer) && (not (eqb s l.consumer) && (not (p.before s l.producer) && not (p.before l.consumer s)))) h in
      let d = deletes_some (task_of ts p s) f (ap (λ (o : Option ℕ). holds_fact o (deletes_of (task_of ts p s))) (sym a) ∙ x.0) in
      let rest = x.1 in
      record {
        task = d.0;
        is_step = d.1;
        deletes = d.2;
        not_producer = λ e. let k = eq-eqb s l.producer e in grind arith;
        not_consumer = λ e. let k = eq-eqb s l.consumer e in grind arith;
        not_before = λ e. grind arith;
        not_after = λ e. grind arith;
      }

  executable : compound_step ts p ≡ None → need_unlinked ts p ≡ None → threat ts p ≡ None → Executable ts p
  executable h k m = record {
    all_primitive = all_primitive h;
    all_linked = all_linked k;
    no_threat = λ l f i pr s th.
        let z = found_none (λ x. lowest_link (threatens ts p x) p.links) (steps_of p) (ends_none _ m) s (step_in ts p s th.task th.is_step) in
        both_ways _ (lowest_none (threatens ts p s) p.links z l i) (threat_tested l f s pr th);
  }

allowed : (capacity : ℕ) (st : State) → Lawful st → (l : Command) → Clear (causes capacity st l) → Allowed st l
allowed capacity st law NewPrimitive c = in_tasks st.phase c.0
allowed capacity st law NewCompound c = in_tasks st.phase c.0
allowed capacity st law (AppendNeed t f) c = in_tasks st.phase c.0
allowed capacity st law (AppendAdd t f) c = in_tasks st.phase c.0
allowed capacity st law (AppendDelete t f) c = in_tasks st.phase c.0
allowed capacity st law EndPhase c = at_end st.phase c.0
  where
    at_end : (ph : Phase) → outside ph (Tasks ∷ Methods ∷ Initial ∷ []) ≡ None → (ph ≡ Tasks) ⊎ ((ph ≡ Methods) ⊎ (ph ≡ Initial))
    at_end ph h = ⊎_elim inl (λ z. inr (⊎_elim inl (λ y. inr (⊎_elim (λ e. e) (λ x. absurd x) y)) z)) (inside ph (Tasks ∷ Methods ∷ Initial ∷ []) h)
allowed capacity st law (OpenMethod t) c =
    let u = known_task capacity st t (named 1 (ltb t (length st.tasks) ∷ []) c.1.0).0 in
    (in_methods st.phase c.0, (u.0, u.1, not_primitive (slice_get st.tasks t) u.0 u.1 (when_none (is_primitive (slice_get st.tasks t)) c.1.1.0)))
allowed capacity st law (NewStep t) c = at_step capacity st t c
allowed capacity st law (PutOrder p q) c = at_order capacity st p q c
allowed capacity st law (PutLink p i q j) c = at_link capacity st p i q j c
allowed capacity st law (RouteNeed j s k) c = at_need_goes capacity st j s k c
allowed capacity st law (RouteAdd i s k) c = at_add_goes capacity st i s k c
allowed capacity st law CloseMethod c = at_close capacity st law c
allowed capacity st law (Decompose s m) c = at_decompose capacity st s m c
allowed capacity st law Judge c = (in_refine st.phase c.0, executable st.tasks st.plan c.1.0 c.1.1.0 c.1.1.1.0)
allowed capacity st law (Take s) c = (
  in_running st.phase c.0,
  record {
    present = step_is_in st.plan.steps s (named 1 (is_step st.plan.steps s ∷ []) c.1.0).0;
    untaken = λ i. both_ways _ (when_none (among s st.taken) c.1.1.0) (in_among s st.taken i);
    behind = λ x h.
        let z = such_none (λ y. st.plan.before y s && not (among y st.taken)) (steps_of st.plan) (returned_none _ c.1.1.1.0) x (law.sound.own_steps x s h).0 in
        among_in x st.taken (grind arith);
  },
)

pub numbered_all : (capacity : ℕ) (st : State) (l : Command) → (verdict capacity st l).code ≡ 0 → Clear (causes capacity st l)
numbered_all capacity st NewPrimitive e = clear (causes capacity st NewPrimitive) _ refl e
numbered_all capacity st NewCompound e = clear (causes capacity st NewCompound) _ refl e
numbered_all capacity st (AppendNeed t f) e = clear (causes capacity st (AppendNeed t f)) _ refl e
numbered_all capacity st (AppendAdd t f) e = clear (causes capacity st (AppendAdd t f)) _ refl e
numbered_all capacity st (AppendDelete t f) e = clear (causes capacity st (AppendDelete t f)) _ refl e
numbered_all capacity st EndPhase e = clear (causes capacity st EndPhase) _ refl e
numbered_all capacity st (OpenMethod t) e = clear (causes capacity st (OpenMethod t)) _ refl e
numbered_all capacity st (NewStep t) e = clear (causes capacity st (NewStep t)) _ refl e
numbered_all capacity st (PutOrder p q) e = clear (causes capacity st (PutOrder p q)) _ refl e
numbered_all capacity st (PutLink p i q j) e = clear (causes capacity st (PutLink p i q j)) _ refl e
numbered_all capacity st (RouteNeed j s k) e = clear (causes capacity st (RouteNeed j s k)) _ refl e
numbered_all capacity st (RouteAdd i s k) e = clear (causes capacity st (RouteAdd i s k)) _ refl e
numbered_all capacity st CloseMethod e = clear (causes capacity st CloseMethod) _ refl e
numbered_all capacity st (Decompose s m) e = clear (causes capacity st (Decompose s m)) _ refl e
numbered_all capacity st Judge e = clear (causes capacity st Judge) _ refl e
numbered_all capacity st (Take s) e = clear (causes capacity st (Take s)) _ refl e

takes : (capacity : ℕ) (st : State) → Lawful st → (s : ℕ) → Allowed st (Take s) → (verdict capacity st (Take s)).code ≡ 0
takes capacity st law s a =
    let run : outside st.phase (Running ∷ []) ≡ None = ap (λ (ph : Phase). outside ph (Running ∷ [])) a.0 in
    let here : nameless 1 (is_step st.plan.steps s ∷ []) ≡ None = ap (λ (b : Bool). nameless 1 (b ∷ [])) (in_is_step st.plan.steps s a.1.present) in
    let fresh : among s st.taken ≡ false = ⊎_elim (λ h. absurd (a.1.untaken (among_in s st.taken h))) (λ h. h) (cases_Bool (among s st.taken)) in
    let none : untaken_before st.plan st.taken s ≡ None = none_returned _ (none_such (λ x. st.plan.before x s && not (among x st.taken)) (steps_of st.plan) (λ x i.
    let b = a.1.behind x in let m = in_among x st.taken in grind arith)) in
    ap (λ (w : Row). w.code) (all_clear (causes capacity st (Take s)) _ (run, (here, (none_when _ fresh, (none, tt)))))

-- a judge line answered by number 16
pub sixteen : (o₅ o₁₄ o₁₅ o₁₆ : Option (ℕ × ℕ × ℕ)) (n : ℕ) → (first_of ((5, o₅) ∷ (14, o₁₄) ∷ (15, o₁₅) ∷ (16, o₁₆) ∷ []) n).code ≡ 16
    → (o₁₄ ≡ None) × ((v : ℕ × ℕ × ℕ) × (o₁₆ ≡ Some v) × (first_of ((5, o₅) ∷ (14, o₁₄) ∷ (15, o₁₅) ∷ (16, o₁₆) ∷ []) n ≡ record { code = 16; a = v.0; b = v.1; c = v.2 }))
sixteen (Some v) o₁₄ o₁₅ o₁₆ n h = let w : ⊥ = omega arith in absurd w
sixteen None (Some v) o₁₅ o₁₆ n h = let w : ⊥ = omega arith in absurd w
sixteen None None (Some v) o₁₆ n h = let w : ⊥ = omega arith in absurd w
sixteen None None None None n h = let w : ⊥ = omega arith in absurd w
sixteen None None None (Some v) n h = (refl, (v, refl, refl))

named_threat : (capacity : ℕ) (st : State) → Lawful st → (verdict capacity st Judge).code ≡ 16
    → ((s : ℕ) (t : Task) → task_of st.tasks st.plan s ≡ Some t → t.primitive ≡ true)
    × ((l : Link) × (f : ℕ) × Linked l st.plan.links × Protects st.tasks st.plan l f
    × Threat st.tasks st.plan l f (verdict capacity st Judge).a
    × ((verdict capacity st Judge).b ≡ l.producer) × ((verdict capacity st Judge).c ≡ l.consumer))
named_threat capacity st law e =
    let ts : List Task = st.tasks in
    let p : Plan = st.plan in
    let r = sixteen (outside st.phase (Refine ∷ [])) (compound_step ts p) (need_unlinked ts p) (threat ts p) (length (steps_of p)) e in
    let v = r.1.0 in
    let x = ends_some (first_found (λ s. lowest_link (threatens ts p s) p.links) (steps_of p)) v r.1.1 in
    let y = found_some (λ s. lowest_link (threatens ts p s) p.links) (steps_of p) x.0 x.1 in
    let z = lowest_some (threatens ts p x.0.0) p.links x.0.1 y.1 in
    let l : Link = x.0.1 in
    let fit = law.sound.links_fit l z.0 in
    let is_a : x.0.0 ≡ (verdict capacity st Judge).a = sym (ap (λ (w : Row). w.a) r.1.2 ∙ x.2) in (
      all_primitive ts p r.0,
      (
        l,
        fit.0,
        z.0,
        fit.1,
        subst (λ (s : ℕ). Threat ts p l fit.0 s) is_a (tested_threat ts p l fit.0 x.0.0 fit.1 z.1),
        ap (λ (w : Row). w.b) r.1.2 ∙ x.3,
        ap (λ (w : Row). w.c) r.1.2 ∙ x.4,
      ),
    )

pub careful : (capacity : ℕ) → Careful (verdict capacity)
careful capacity = record {
  allowed = λ st law l e. allowed capacity st law l (numbered_all capacity st l e);
  takes = takes capacity;
  counts = λ st e. ap (λ (w : Row). w.a) (all_clear (causes capacity st Judge) (number_told st Judge) (numbered_all capacity st Judge e));
  sums = λ st s e. ap (λ (w : Row). w.a) (all_clear (causes capacity st (Take s)) (number_told st (Take s)) (numbered_all capacity st (Take s) e));
  threatens = named_threat capacity;
}
