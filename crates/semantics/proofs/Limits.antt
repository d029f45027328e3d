-- No limit is ever passed.
use Rattle.std.proofs.Common.{◌≡◌, ℕ, zero, suc, ◌<◌, ◌≤◌, Bool, true, false, not, ◌&&◌, leb, ◌⊎◌, List, [], ◌∷◌, ◌++◌, map, length, Some, None, Ok, Err, Option, Result, sym, refl, ap, ◌∙◌, subst, inl, inr, ⊎_elim, arith}
use Rattle.std.proofs.lemmas.Bool.{leb-false, ltb-false, or_parts}
use Rattle.std.specs.List.{slice_get}
use Rattle.line.specs.Parse.{parsed}
use Rattle.line.specs.declared.command.Command.{Command}
use Rattle.line.specs.declared.command.Command.TheVariants.{AppendAdd, AppendDelete, AppendNeed, CloseMethod, Decompose, EndPhase, Judge, NewCompound, NewPrimitive, NewStep, OpenMethod, PutLink, PutOrder, RouteAdd, RouteNeed, Take}
use Rattle.line.specs.declared.command.Refusal.{Refusal}
use Rattle.semantics.specs.Causes.{when}
use Rattle.semantics.specs.Closures.{try_all}
use Rattle.semantics.specs.Decomposing.{decompose_step, links_after, new_pairs, plan_with, steps_after}
use Rattle.semantics.specs.Laws.{Limits, LimitsHold, ShortLists, SmallMethod}
use Rattle.semantics.specs.Methods.{Method}
use Rattle.semantics.specs.Orders.{dropped, Relation}
use Rattle.semantics.specs.Phases.{phase_after}
use Rattle.semantics.specs.PlanLines.{too_many}
use Rattle.semantics.specs.Plans.{has_link, Plan, with_link}
use Rattle.semantics.specs.Promise.{state}
use Rattle.semantics.specs.Rules.{causes, links_limit, links_now, row_for, state_for, verdict}
use Rattle.semantics.specs.States.{next, opening, State}
use Rattle.semantics.specs.Tasks.{adds_of, bare, changed, deletes_of, needs_of, Task, with_add, with_delete, with_need}
use Rattle.semantics.specs.declared.link.Link.{Link}
use Rattle.semantics.specs.declared.phase.Phase.TheVariants.{Initial, MethodOpen, Methods, Refine, Tasks}
use Rattle.semantics.proofs.Capacity.{fits_next, length-map}
use Rattle.semantics.proofs.Careful.{at_decompose, numbered_all}
use Rattle.semantics.proofs.InStep.{plan_x}
use Rattle.semantics.proofs.Searches.{Clear, inside, when_none}

one_more : {X : Type 0} (xs : List X) (x : X) → length (xs ++ (x ∷ [])) ≡ suc (length xs)
one_more [] x = refl
one_more (y ∷ xs) x = ap suc (one_more xs x)

nth_last : {X : Type 0} (xs : List X) (x y : X) (k : ℕ) → slice_get (xs ++ (x ∷ [])) k ≡ Some y → (slice_get xs k ≡ Some y) ⊎ (x ≡ y)
nth_last [] x y zero h = inr (cc)
nth_last [] x y (suc k) h = let w : ⊥ = grind arith in absurd w
nth_last (z ∷ xs) x y zero h = inl h
nth_last (z ∷ xs) x y (suc k) h = nth_last xs x y k h

length_change : (f : Task → Task) (k : ℕ) (ts : List Task) → length (changed f k ts) ≡ length ts
length_change f k [] = refl
length_change f zero (t ∷ ts) = refl
length_change f (suc k) (t ∷ ts) = ap suc (length_change f k ts)

nth_change : (f : Task → Task) (k i : ℕ) (ts : List Task) (u : Task) → slice_get (changed f k ts) i ≡ Some u → (slice_get ts i ≡ Some u) ⊎ ((t : Task) × (slice_get ts k ≡ Some t) × (f t ≡ u))
nth_change f k i [] u h = let w : ⊥ = grind arith in absurd w
nth_change f zero zero (t ∷ ts) u h = inr (t, refl, cc)
nth_change f zero (suc i) (t ∷ ts) u h = inl h
nth_change f (suc k) zero (t ∷ ts) u h = inl h
nth_change f (suc k) (suc i) (t ∷ ts) u h = nth_change f k i ts u h

pub below : (a b : ℕ) → when (leb a b) ≡ None → b < a
below a b h = leb-false a b (when_none (leb a b) h)

with_length : (ls : List Link) (l : Link) (n : ℕ) → length ls ≤ n → (not (has_link l ls) && leb n (length ls)) ≡ false → length (with_link ls l) ≤ n
with_length ls l n h k = let m = one_more ls l in let b = leb-false n (length ls) in grind (arith, m, b)

-- a step, a pair, a link and a decomposition leave the domain alone
step_keeps : (st : State) (t : ℕ) → ((next st (NewStep t)).tasks ≡ st.tasks) × ((next st (NewStep t)).methods ≡ st.methods)
step_keeps st t = (grind arith, grind arith)

order_keeps : (st : State) (p q : ℕ) → ((next st (PutOrder p q)).tasks ≡ st.tasks) × ((next st (PutOrder p q)).methods ≡ st.methods)
order_keeps st p q = (grind arith, grind arith)

link_keeps_domain : (st : State) (p i q j : ℕ) → ((next st (PutLink p i q j)).tasks ≡ st.tasks) × ((next st (PutLink p i q j)).methods ≡ st.methods)
link_keeps_domain st p i q j = (grind arith, grind arith)

x_keeps : (st : State) (s m : ℕ) → ((next st (Decompose s m)).tasks ≡ st.tasks) × ((next st (Decompose s m)).methods ≡ st.methods)
x_keeps st s m = (grind arith, grind arith)

module _ (capacity : ℕ) (st : State) (lim : Limits capacity st) where
  Lists : List Task → Type 0
  Lists us = (k : ℕ) (t : Task) → slice_get us k ≡ Some t → ShortLists t

  new_list : (b : Bool) → Lists (st.tasks ++ (bare b ∷ []))
  unfolding Lists
  new_list b k t e = ⊎_elim (λ h. lim.lists k t h) (λ h. subst ShortLists h (omega arith, omega arith, omega arith)) (nth_last st.tasks (bare b) t k e)

  more_list : (f : Task → Task) (n : ℕ) → ((t : Task) → slice_get st.tasks n ≡ Some t → ShortLists t → ShortLists (f t)) → Lists (changed f n st.tasks)
  unfolding Lists
  more_list f n h k u e = ⊎_elim (λ i. lim.lists k u i) (λ r. subst ShortLists r.2 (h r.0 r.1 (lim.lists n r.0 r.1))) (nth_change f n k st.tasks u e)

  tasks_kept : (l : Command) → Clear (causes capacity st l) → length (next st l).tasks ≤ 32
  tasks_kept NewPrimitive c = let k = below 32 (length st.tasks) c.1.0 in let m = one_more st.tasks (bare true) in omega arith
  tasks_kept NewCompound c = let k = below 32 (length st.tasks) c.1.0 in let m = one_more st.tasks (bare false) in omega arith
  tasks_kept (AppendNeed t f) c = let m = length_change (with_need f) t st.tasks in let k = lim.tasks in omega arith
  tasks_kept (AppendAdd t f) c = let m = length_change (with_add f) t st.tasks in let k = lim.tasks in omega arith
  tasks_kept (AppendDelete t f) c = let m = length_change (with_delete f) t st.tasks in let k = lim.tasks in omega arith
  tasks_kept EndPhase c = lim.tasks
  tasks_kept (OpenMethod t) c = lim.tasks
  tasks_kept (NewStep t) c = subst (λ (us : List Task). length us ≤ 32) (sym (step_keeps st t).0) lim.tasks
  tasks_kept (PutOrder p q) c = subst (λ (us : List Task). length us ≤ 32) (sym (order_keeps st p q).0) lim.tasks
  tasks_kept (PutLink p i q j) c = subst (λ (us : List Task). length us ≤ 32) (sym (link_keeps_domain st p i q j).0) lim.tasks
  tasks_kept (RouteNeed j s k) c = lim.tasks
  tasks_kept (RouteAdd i s k) c = lim.tasks
  tasks_kept CloseMethod c = lim.tasks
  tasks_kept (Decompose s m) c = subst (λ (us : List Task). length us ≤ 32) (sym (x_keeps st s m).0) lim.tasks
  tasks_kept Judge c = lim.tasks
  tasks_kept (Take s) c = lim.tasks

  at_needs : (t f : ℕ) → Clear (causes capacity st (AppendNeed t f)) → Lists (changed (with_need f) t st.tasks)
  at_needs t f c = more_list (with_need f) t (λ u e s.
      let k : length (needs_of (slice_get st.tasks t)) < 32 = below 32 _ c.1.1.1.0 in
      let k' : length u.needs < 32 = subst (λ (o : Option Task). length (needs_of o) < 32) e k in
      let m = one_more u.needs f in (omega arith, s.1, s.2))

  at_adds : (t f : ℕ) → Clear (causes capacity st (AppendAdd t f)) → Lists (changed (with_add f) t st.tasks)
  at_adds t f c = more_list (with_add f) t (λ u e s.
      let k : length (adds_of (slice_get st.tasks t)) < 32 = below 32 _ c.1.1.1.0 in
      let k' : length u.adds < 32 = subst (λ (o : Option Task). length (adds_of o) < 32) e k in
      let m = one_more u.adds f in (s.0, omega arith, s.2))

  at_deletes : (t f : ℕ) → Clear (causes capacity st (AppendDelete t f)) → Lists (changed (with_delete f) t st.tasks)
  at_deletes t f c = more_list (with_delete f) t (λ u e s.
      let k : length (deletes_of (slice_get st.tasks t)) < 32 = below 32 _ c.1.1.1.0 in
      let k' : length u.deletes < 32 = subst (λ (o : Option Task). length (deletes_of o) < 32) e k in
      let m = one_more u.deletes f in (s.0, s.1, omega arith))

  lists_kept : (l : Command) → Clear (causes capacity st l) → Lists (next st l).tasks
  unfolding Lists
  lists_kept NewPrimitive c = new_list true
  lists_kept NewCompound c = new_list false
  lists_kept (AppendNeed t f) c = at_needs t f c
  lists_kept (AppendAdd t f) c = at_adds t f c
  lists_kept (AppendDelete t f) c = at_deletes t f c
  lists_kept EndPhase c = lim.lists
  lists_kept (OpenMethod t) c = lim.lists
  lists_kept (NewStep t) c = subst Lists (sym (step_keeps st t).0) lim.lists
  lists_kept (PutOrder p q) c = subst Lists (sym (order_keeps st p q).0) lim.lists
  lists_kept (PutLink p i q j) c = subst Lists (sym (link_keeps_domain st p i q j).0) lim.lists
  lists_kept (RouteNeed j s k) c = lim.lists
  lists_kept (RouteAdd i s k) c = lim.lists
  lists_kept CloseMethod c = lim.lists
  lists_kept (Decompose s m) c = subst Lists (sym (x_keeps st s m).0) lim.lists
  lists_kept Judge c = lim.lists
  lists_kept (Take s) c = lim.lists

  closing : Clear (causes capacity st CloseMethod) → st.phase ≡ MethodOpen
  closing c = ⊎_elim (λ e. e) (λ z. absurd z) (inside st.phase (MethodOpen ∷ []) c.0)

  methods_kept : (l : Command) → Clear (causes capacity st l) → length (next st l).methods ≤ 32
  methods_kept CloseMethod c = let k = lim.open_counts (closing c) in let m = one_more st.methods st.draft in omega arith
  methods_kept NewPrimitive c = lim.methods
  methods_kept NewCompound c = lim.methods
  methods_kept (AppendNeed t f) c = lim.methods
  methods_kept (AppendAdd t f) c = lim.methods
  methods_kept (AppendDelete t f) c = lim.methods
  methods_kept EndPhase c = lim.methods
  methods_kept (OpenMethod t) c = lim.methods
  methods_kept (NewStep t) c = subst (λ (ms : List Method). length ms ≤ 32) (sym (step_keeps st t).1) lim.methods
  methods_kept (PutOrder p q) c = subst (λ (ms : List Method). length ms ≤ 32) (sym (order_keeps st p q).1) lim.methods
  methods_kept (PutLink p i q j) c = subst (λ (ms : List Method). length ms ≤ 32) (sym (link_keeps_domain st p i q j).1) lim.methods
  methods_kept (RouteNeed j s k) c = lim.methods
  methods_kept (RouteAdd i s k) c = lim.methods
  methods_kept (Decompose s m) c = subst (λ (ms : List Method). length ms ≤ 32) (sym (x_keeps st s m).1) lim.methods
  methods_kept Judge c = lim.methods
  methods_kept (Take s) c = lim.methods

  closed_each : Clear (causes capacity st CloseMethod) → (k : ℕ) (m : Method) → slice_get (st.methods ++ (st.draft ∷ [])) k ≡ Some m → SmallMethod m
  closed_each c k m e = ⊎_elim (λ h. lim.each k m h) (λ h. subst SmallMethod h (lim.open_one (closing c))) (nth_last st.methods st.draft m k e)

  each_kept : (l : Command) → Clear (causes capacity st l) → (k : ℕ) (m : Method) → slice_get (next st l).methods k ≡ Some m → SmallMethod m
  each_kept CloseMethod c = closed_each c
  each_kept NewPrimitive c = lim.each
  each_kept NewCompound c = lim.each
  each_kept (AppendNeed t f) c = lim.each
  each_kept (AppendAdd t f) c = lim.each
  each_kept (AppendDelete t f) c = lim.each
  each_kept EndPhase c = lim.each
  each_kept (OpenMethod t) c = lim.each
  each_kept (NewStep t) c = subst (λ (ms : List Method). (k : ℕ) (m : Method) → slice_get ms k ≡ Some m → SmallMethod m) (sym (step_keeps st t).1) lim.each
  each_kept (PutOrder p q) c = subst (λ (ms : List Method). (k : ℕ) (m : Method) → slice_get ms k ≡ Some m → SmallMethod m) (sym (order_keeps st p q).1) lim.each
  each_kept (PutLink p i q j) c = subst (λ (ms : List Method). (k : ℕ) (m : Method) → slice_get ms k ≡ Some m → SmallMethod m) (sym (link_keeps_domain st p i q j).1) lim.each
  each_kept (RouteNeed j s k) c = lim.each
  each_kept (RouteAdd i s k) c = lim.each
  each_kept (Decompose s m) c = subst (λ (ms : List Method). (k : ℕ) (m : Method) → slice_get ms k ≡ Some m → SmallMethod m) (sym (x_keeps st s m).1) lim.each
  each_kept Judge c = lim.each
  each_kept (Take s) c = lim.each

  in_refine_x : (s m : ℕ) → Clear (causes capacity st (Decompose s m)) → st.phase ≡ Refine
  in_refine_x s m c = (at_decompose capacity st s m c).0

  -- the open method
  Opened : Command → Type 0
  Opened l = phase_after l st.phase ≡ MethodOpen → (length (next st l).methods < 32) × SmallMethod (next st l).draft

  as_before : st.phase ≡ MethodOpen → (length st.methods < 32) × SmallMethod st.draft
  as_before e = (lim.open_counts e, lim.open_one e)

  opened_end : Clear (causes capacity st EndPhase) → Opened EndPhase
  unfolding Opened
  opened_end c h = let i = inside st.phase (Tasks ∷ Methods ∷ Initial ∷ []) c.0 in let w : ⊥ = grind arith in absurd w

  opened_step : (t : ℕ) → Clear (causes capacity st (NewStep t)) → Opened (NewStep t)
  unfolding Opened
  opened_step t c h =
      let k = below _ _ c.1.1.1.0 in
      let k' : length (map Some st.draft.steps) < 8 = rw h at k in
      let m = length-map st.draft.steps in
      let n = one_more st.draft.steps t in
      let o = as_before h in
      rw h (o.0, (omega arith, o.1.1))

  opened_order : (p q : ℕ) → Opened (PutOrder p q)
  unfolding Opened
  opened_order p q h = let o = as_before h in rw h (o.0, o.1)

  opened_link : (p i q j : ℕ) → Clear (causes capacity st (PutLink p i q j)) → Opened (PutLink p i q j)
  unfolding Opened
  opened_link p i q j c h =
      let l : Link = record { producer = p; add = i; consumer = q; need = j } in
      let k : (not (has_link l (links_now st)) && leb (links_limit st) (length (links_now st))) ≡ false = when_none _ c.1.1.1.0 in
      let k' : (not (has_link l st.draft.links) && leb 16 (length st.draft.links)) ≡ false = rw h at k in
      let o = as_before h in
      rw h (o.0, (o.1.0, with_length st.draft.links l 16 o.1.1 k'))

  opened_for : (t : ℕ) → Clear (causes capacity st (OpenMethod t)) → Opened (OpenMethod t)
  unfolding Opened
  opened_for t c h = (below 32 _ c.1.1.1.0, (omega arith, omega arith))

  opened_kept : (l : Command) → Clear (causes capacity st l) → Opened l
  unfolding Opened
  opened_kept NewPrimitive c = as_before
  opened_kept NewCompound c = as_before
  opened_kept (AppendNeed t f) c = as_before
  opened_kept (AppendAdd t f) c = as_before
  opened_kept (AppendDelete t f) c = as_before
  opened_kept EndPhase c = opened_end c
  opened_kept (OpenMethod t) c = opened_for t c
  opened_kept (NewStep t) c = opened_step t c
  opened_kept (PutOrder p q) c = opened_order p q
  opened_kept (PutLink p i q j) c = opened_link p i q j c
  opened_kept (RouteNeed j s k) c = as_before
  opened_kept (RouteAdd i s k) c = as_before
  opened_kept CloseMethod c = λ h. let w : ⊥ = grind arith in absurd w
  opened_kept (Decompose s m) c = λ h. let e = in_refine_x s m c in let w : ⊥ = grind arith in absurd w
  opened_kept Judge c = λ h. let w : ⊥ = grind arith in absurd w
  opened_kept (Take s) c = as_before

  -- the plan's links
  linked_kept : (p i q j : ℕ) → Clear (causes capacity st (PutLink p i q j)) → length (next st (PutLink p i q j)).plan.links ≤ 256
  linked_kept p i q j c =
      let l : Link = record { producer = p; add = i; consumer = q; need = j } in
      let k : (not (has_link l (links_now st)) && leb (links_limit st) (length (links_now st))) ≡ false = when_none _ c.1.1.1.0 in
      ⊎_elim
      (λ e. rw e lim.links)
      (λ z. ⊎_elim
      (λ e. rw e (with_length st.plan.links l 256 lim.links (rw e at k)))
      (λ y. ⊎_elim (λ e. rw e (with_length st.plan.links l 256 lim.links (rw e at k))) (λ x. absurd x) y) z)
      (inside st.phase (MethodOpen ∷ Initial ∷ Refine ∷ []) c.0)

  step_links : (t : ℕ) → length (next st (NewStep t)).plan.links ≤ 256
  step_links t = let k = lim.links in grind arith

  order_links : (p q : ℕ) → length (next st (PutOrder p q)).plan.links ≤ 256
  order_links p q = let k = lim.links in grind arith

  links_made : (q : Plan) (s : ℕ) (m : Method) → decompose_step st.tasks st.plan s m ≡ Some q → q.links ≡ links_after st.plan s m
  links_made q s m e = at (try_all (Some (dropped st.plan.before s)) (new_pairs st.tasks st.plan s m)) e
    where
      at : (o : Option Relation) → plan_with st.plan s m o ≡ Some q → q.links ≡ links_after st.plan s m
      at None k = let w : ⊥ = grind arith in absurd w
      at (Some R) k = let is : record { steps = steps_after st.plan s m; links = links_after st.plan s m; before = R } ≡ q = cc in ap (λ (x : Plan). x.links) (sym is)

  decomposed_links : (s m : ℕ) → Clear (causes capacity st (Decompose s m)) → length (next st (Decompose s m)).plan.links ≤ 256
  decomposed_links s m c =
      let a = at_decompose capacity st s m c in
      let n : Method = a.1.0 in
      let q : Plan = a.1.3.0 in
      let is : (next st (Decompose s m)).plan ≡ q = plan_x st s m a.0 n a.1.1 q a.1.3.1 in
      let few : too_many capacity st.plan s (Some n) ≡ false = ap (too_many capacity st.plan s) (sym a.1.1) ∙ when_none _ c.1.1.1.0 in
      let less = ltb-false 256 (length (links_after st.plan s n)) (or_parts _ _ few).1 in
      let all : length (next st (Decompose s m)).plan.links ≡ length (links_after st.plan s n) = ap (λ (p : Plan). length p.links) is ∙ ap length (links_made q s n a.1.3.1) in
      omega arith

  links_kept : (l : Command) → Clear (causes capacity st l) → length (next st l).plan.links ≤ 256
  links_kept NewPrimitive c = lim.links
  links_kept NewCompound c = lim.links
  links_kept (AppendNeed t f) c = lim.links
  links_kept (AppendAdd t f) c = lim.links
  links_kept (AppendDelete t f) c = lim.links
  links_kept EndPhase c = lim.links
  links_kept (OpenMethod t) c = lim.links
  links_kept (NewStep t) c = step_links t
  links_kept (PutOrder p q) c = order_links p q
  links_kept (PutLink p i q j) c = linked_kept p i q j c
  links_kept (RouteNeed j s k) c = lim.links
  links_kept (RouteAdd i s k) c = lim.links
  links_kept CloseMethod c = lim.links
  links_kept (Decompose s m) c = decomposed_links s m c
  links_kept Judge c = lim.links
  links_kept (Take s) c = lim.links

  pub limits_next : (l : Command) → Clear (causes capacity st l) → Limits capacity (next st l)
  unfolding Lists Opened
  limits_next l c = record {
    tasks = tasks_kept l c;
    lists = lists_kept l c;
    methods = methods_kept l c;
    open_counts = λ h. (opened_kept l c h).0;
    each = each_kept l c;
    open_one = λ h. (opened_kept l c h).1;
    steps = fits_next capacity st lim.steps l c;
    links = links_kept l c;
  }

  limits_after : (l : Command) (n : ℕ) → (verdict capacity st l).code ≡ n → Limits capacity (state_for st (Ok l) n)
  limits_after l zero e = limits_next l (numbered_all capacity st l e)
  limits_after l (suc n) e = lim

limits_line : (capacity : ℕ) (st : State) → Limits capacity st → (r : Result Command Refusal) → Limits capacity (state_for st r (row_for capacity st r).code)
limits_line capacity st lim (Err e) = lim
limits_line capacity st lim (Ok c) = limits_after capacity st lim c (verdict capacity st c).code refl

opening_lists : (k : ℕ) (t : Task) → slice_get opening.tasks k ≡ Some t → ShortLists t
opening_lists zero t e = let q : bare true ≡ t = cc in subst ShortLists q (omega arith, omega arith, omega arith)
opening_lists (suc zero) t e = let q : bare true ≡ t = cc in subst ShortLists q (omega arith, omega arith, omega arith)
opening_lists (suc (suc k)) t e = let w : ⊥ = grind arith in absurd w

pub limits_hold : LimitsHold
limits_hold capacity least [] = record {
  tasks = omega arith;
  lists = opening_lists;
  methods = omega arith;
  open_counts = λ h. omega arith;
  each = λ k m e. let w : ⊥ = grind arith in absurd w;
  open_one = λ h. (omega arith, omega arith);
  steps = least;
  links = omega arith;
}
limits_hold capacity least (line ∷ told) = limits_line capacity (state capacity told) (limits_hold capacity least told) (parsed line)
