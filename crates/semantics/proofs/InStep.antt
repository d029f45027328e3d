-- The rules and the gate book go in step.
use Rattle.std.proofs.Common.{◌≡◌, ℕ, zero, suc, true, false, cond, ◌↔◌, List, [], ◌∷◌, ◌++◌, Some, Ok, Option, sym, refl, ap, ◌∙◌, subst, subst₂, inl, inr, ⊎_elim}
use mathlib.Core.Bool.{false≢true}
use Rattle.std.specs.List.{slice_get}
use Rattle.line.specs.declared.command.Command.{Command}
use Rattle.line.specs.declared.command.Command.TheVariants.{AppendAdd, AppendDelete, AppendNeed, CloseMethod, Decompose, EndPhase, Judge, NewCompound, NewPrimitive, NewStep, OpenMethod, PutLink, PutOrder, RouteAdd, RouteNeed, Take}
use Rattle.semantics.specs.Book.{Book, BookPlan, decompose_by, decomposed, enter, fed, write_link, write_order, write_step}
use Rattle.semantics.specs.Decomposing.{decompose_step}
use Rattle.semantics.specs.Methods.{add_entry, blank, link_of, Method, need_entry, order_of, step_of}
use Rattle.semantics.specs.Orders.{Holds}
use Rattle.semantics.specs.Phases.{is_refine, phase_after}
use Rattle.semantics.specs.Plans.{Framed, Plan, Sound}
use Rattle.semantics.specs.States.{decompose_with, next, plan_link, plan_or, plan_order, plan_step, State, with_plan}
use Rattle.semantics.specs.Tasks.{bare, changed, is_primitive, Task, with_add, with_delete, with_need}
use Rattle.semantics.specs.declared.link.Link.{Link}
use Rattle.semantics.specs.declared.phase.Phase.{Phase}
use Rattle.semantics.specs.declared.phase.Phase.TheVariants.{Initial, MethodOpen, Refine, Running, Tasks}
use Rattle.semantics.proofs.Alike.{draft_alike, link_alike, link_sound, methods_alike, order_alike, order_sound, step_alike, step_sound, tasks_alike}
use Rattle.semantics.proofs.Allowed.{Allowed, PlanOpen}
use Rattle.semantics.proofs.Decomposes.{gives}
use Rattle.semantics.proofs.Decomposing.{order_as_book}
use Rattle.semantics.proofs.Frames.{framed_decomposed, framed_link, framed_order, framed_step}
use Rattle.semantics.proofs.Good.{draft_add, draft_blank, draft_link, draft_need, draft_order, draft_step, draft_whole, Ends, Good, good_close, good_draft, good_end, good_judge, good_plan, good_tasks, GoodState}
use Rattle.semantics.proofs.Inherited.{number_in}

-- a task more, and a fact more of a task, leave init and goal primitive
task_kept : (ts us : List Task) (k : ℕ) → is_primitive (slice_get ts k) ≡ true → is_primitive (slice_get (ts ++ us) k) ≡ true
task_kept [] us k h = absurd (false≢true h)
task_kept (t ∷ ts) us zero h = h
task_kept (t ∷ ts) us (suc k) h = task_kept ts us k h

fact_kept : (f : Task → Task) → ((t : Task) → (f t).primitive ≡ t.primitive) → (i : ℕ) (ts : List Task) (k : ℕ) → is_primitive (slice_get ts k) ≡ true → is_primitive (slice_get (changed f i ts) k) ≡ true
fact_kept f same i [] k h = absurd (false≢true h)
fact_kept f same zero (t ∷ ts) zero h = same t ∙ h
fact_kept f same zero (t ∷ ts) (suc k) h = h
fact_kept f same (suc i) (t ∷ ts) zero h = h
fact_kept f same (suc i) (t ∷ ts) (suc k) h = fact_kept f same i ts k h

at_tasks : (st : State) (us : List Task) → st.phase ≡ Tasks → Ends us → GoodState st → Good st.phase us st.methods st.draft st.plan
at_tasks st us e h g = rw e (good_tasks st.tasks us st.methods st.draft st.plan h (rw e at g))

more_tasks : (st : State) (t : Task) → st.phase ≡ Tasks → GoodState st → Good st.phase (st.tasks ++ (t ∷ [])) st.methods st.draft st.plan
more_tasks st t e g = at_tasks st (st.tasks ++ (t ∷ [])) e (task_kept st.tasks (t ∷ []) 0 g.ends.0, task_kept st.tasks (t ∷ []) 1 g.ends.1) g

more_facts : (st : State) (f : Task → Task) → ((t : Task) → (f t).primitive ≡ t.primitive) → (i : ℕ) → st.phase ≡ Tasks → GoodState st → Good st.phase (changed f i st.tasks) st.methods st.draft st.plan
more_facts st f same i e g = at_tasks st (changed f i st.tasks) e (fact_kept f same i st.tasks 0 g.ends.0, fact_kept f same i st.tasks 1 g.ends.1) g

-- a pair or a link told to the plan, or a step decomposed
in_plan : (ph : Phase) (st : State) (q : Plan) → st.phase ≡ ph → PlanOpen ph → Sound st.tasks q → Framed q → GoodState st → Good ph st.tasks st.methods st.draft q
in_plan ph st q e o s f g = good_plan ph st.tasks st.methods st.draft st.plan q o s f (rw e at g)

-- the plan after a decomposition that is not refused
pub plan_x : (st : State) (s m : ℕ) → st.phase ≡ Refine → (n : Method) → slice_get st.methods m ≡ Some n → (q : Plan) → decompose_step st.tasks st.plan s n ≡ Some q
    → (next st (Decompose s m)).plan ≡ q
plan_x st s m e n hn q hq =
    ap (λ (ph : Phase). (cond (is_refine ph) (with_plan st (decompose_with st.tasks st.plan s (slice_get st.methods m))) st).plan) e
    ∙ (ap (decompose_with st.tasks st.plan s) hn ∙ ap (plan_or st.plan) hq)

good_at_method_for : (st : State) (t : ℕ) → GoodState st → Allowed st (OpenMethod t) → GoodState (next st (OpenMethod t))
good_at_method_for st t g a = good_draft st.phase st.tasks st.methods st.draft (blank t) st.plan (inl a.0) (draft_blank st.tasks t a.1.0 a.1.1 a.1.2) g

good_at_step : (st : State) (t : ℕ) → GoodState st → Allowed st (NewStep t) → GoodState (next st (NewStep t))
good_at_step st t g a = ⊎_elim
    (λ e. rw e (good_draft MethodOpen st.tasks st.methods st.draft (step_of st.draft t) st.plan (inr refl) (draft_step st.tasks st.draft t a.0.0 a.0.1 a.2 (g.drafting e)) (rw e at g)))
    (λ e. rw e (in_plan Initial st (plan_step st.plan t) e (inl refl)
    (step_sound st.tasks st.plan t a.0.0 a.0.1 g.sound (number_in st.plan.steps 0 0 0 g.framed.init) (number_in st.plan.steps 0 1 1 g.framed.goal) g.framed.ends) (framed_step st.plan t g.framed) g))
    a.1

good_at_order : (st : State) (p : ℕ) (q : ℕ) → GoodState st → Allowed st (PutOrder p q) → GoodState (next st (PutOrder p q))
good_at_order st p q g a = ⊎_elim
    (λ b. let e = b.0 in rw e (good_draft MethodOpen st.tasks st.methods st.draft (order_of st.draft p q) st.plan (inr refl) (draft_order st.tasks st.draft p q b.1 b.2 b.3 b.4 (g.drafting e)) (rw e at g)))
    (λ b.
    let s = order_sound st.tasks st.plan g.sound (Holds st.plan.before) (λ x y. (λ k. k, λ k. k)) p q b.1 b.2 b.3 b.4 in
    let f = framed_order st.plan p q g.framed in
    ⊎_elim (λ e. rw e (in_plan Initial st (plan_order st.plan p q) e (inl refl) s f g)) (λ e. rw e (in_plan Refine st (plan_order st.plan p q) e (inr refl) s f g)) b.0)
    a

good_at_link : (st : State) (p : ℕ) (i : ℕ) (q : ℕ) (j : ℕ) → GoodState st → Allowed st (PutLink p i q j) → GoodState (next st (PutLink p i q j))
good_at_link st p i q j g a = ⊎_elim
    (λ b. let e = b.0 in rw e (good_draft MethodOpen st.tasks st.methods st.draft (link_of st.tasks st.draft (record { producer = p; add = i; consumer = q; need = j })) st.plan (inr refl) (draft_link st.tasks st.draft (record { producer = p; add = i; consumer = q; need = j }) b.1 b.2 b.3 (g.drafting e)) (rw e at g)))
    (λ b.
    let l : Link = record { producer = p; add = i; consumer = q; need = j } in
    let s = link_sound st.tasks st.plan g.sound (Holds st.plan.before) (λ x y. (λ k. k, λ k. k)) l b.1 in
    let f = framed_link st.tasks st.plan l g.sound g.framed in
    ⊎_elim (λ e. rw e (in_plan Initial st (plan_link st.tasks st.plan l) e (inl refl) s f g)) (λ e. rw e (in_plan Refine st (plan_link st.tasks st.plan l) e (inr refl) s f g)) b.0)
    a

good_at_need_goes : (st : State) (j : ℕ) (s : ℕ) (k : ℕ) → GoodState st → Allowed st (RouteNeed j s k) → GoodState (next st (RouteNeed j s k))
good_at_need_goes st j s k g a =
    let e = a.0 in rw e (good_draft MethodOpen st.tasks st.methods st.draft (need_entry st.draft j (s, k)) st.plan (inr refl) (draft_need st.tasks st.draft a.1.0 j (s, k) a.1.1 a.1.2 (g.drafting e)) (rw e at g))

good_at_add_goes : (st : State) (i : ℕ) (s : ℕ) (k : ℕ) → GoodState st → Allowed st (RouteAdd i s k) → GoodState (next st (RouteAdd i s k))
good_at_add_goes st i s k g a =
    let e = a.0 in rw e (good_draft MethodOpen st.tasks st.methods st.draft (add_entry st.draft i (s, k)) st.plan (inr refl) (draft_add st.tasks st.draft a.1.0 i (s, k) a.1.1 a.1.2 (g.drafting e)) (rw e at g))

good_at_close_method : (st : State) → GoodState st → Allowed st CloseMethod → GoodState (next st CloseMethod)
good_at_close_method st g a =
    let e = a.0 in good_close st.tasks st.methods st.draft st.plan (draft_whole st.tasks st.draft a.1.0 a.1.1 a.1.2 a.1.3 (g.drafting e)) (rw e at g)

good_at_decompose : (st : State) (s : ℕ) (m : ℕ) → GoodState st → Allowed st (Decompose s m) → GoodState (next st (Decompose s m))
good_at_decompose st s m g a =
    let n : Method = a.1.0 in
    let q : Plan = a.1.3.0 in
    let e = a.0 in
    let made = gives st.tasks st.plan s n g.sound q (g.fit m n a.1.1) a.1.2 a.1.3.1 in
    let framed = framed_decomposed st.tasks st.plan s n q g.sound (g.fit m n a.1.1) a.1.2 a.1.3.1 g.ends g.framed in
    let good : Good Refine st.tasks st.methods st.draft q = in_plan Refine st q e (inr refl) made.sound framed g in
    let is : decompose_with st.tasks st.plan s (slice_get st.methods m) ≡ q = ap (decompose_with st.tasks st.plan s) a.1.1 ∙ ap (plan_or st.plan) a.1.3.1 in
    rw e (subst (λ (z : Plan). Good Refine st.tasks st.methods st.draft z) (sym is) good)

good_at_judge : (st : State) → GoodState st → Allowed st Judge → GoodState (next st Judge)
good_at_judge st g a = good_judge st.tasks st.methods st.draft st.plan (rw a.0 at g)

pub good_next : (st : State) (l : Command) → GoodState st → Allowed st l → GoodState (next st l)
good_next st NewPrimitive g a = more_tasks st (bare true) a g
good_next st NewCompound g a = more_tasks st (bare false) a g
good_next st (AppendNeed t f) g a = more_facts st (with_need f) (λ u. refl) t a g
good_next st (AppendAdd t f) g a = more_facts st (with_add f) (λ u. refl) t a g
good_next st (AppendDelete t f) g a = more_facts st (with_delete f) (λ u. refl) t a g
good_next st EndPhase g a = good_end st.phase st.tasks st.methods st.draft st.plan a g
good_next st (OpenMethod t) g a = good_at_method_for st t g a
good_next st (NewStep t) g a = good_at_step st t g a
good_next st (PutOrder p q) g a = good_at_order st p q g a
good_next st (PutLink p i q j) g a = good_at_link st p i q j g a
good_next st (RouteNeed j s k) g a = good_at_need_goes st j s k g a
good_next st (RouteAdd i s k) g a = good_at_add_goes st i s k g a
good_next st CloseMethod g a = good_at_close_method st g a
good_next st (Decompose s m) g a = good_at_decompose st s m g a
good_next st Judge g a = good_at_judge st g a
good_next st (Take s) g a = g

-- The checker's plan and the book's: the same steps, tasks and links, and the same order.
pub record PlanAlike (p : Plan) (q : BookPlan) : Type 0 where
  pub steps : p.steps ≡ q.steps
  pub links : p.links ≡ q.links
  pub order : (x y : ℕ) → Holds p.before x y ↔ q.before x y

pub record Alike (st : State) (b : Book) : Type 0 where
  pub phase : st.phase ≡ b.phase
  pub tasks : st.tasks ≡ b.tasks
  pub methods : st.methods ≡ b.methods
  pub draft : st.draft ≡ b.draft
  pub plan : PlanAlike st.plan b.plan

-- the book's plan by the checker's steps and links
abbrev by_plan : Plan → BookPlan → BookPlan
by_plan p q = record { steps = p.steps; links = p.links; before = q.before }

by_plan_is : (p : Plan) (q : BookPlan) → PlanAlike p q → by_plan p q ≡ q
by_plan_is p q a = λ i. record { steps = a.steps i; links = a.links i; before = q.before }

alike_at_step : (st : State) (t : ℕ) (b : Book) → GoodState st → Allowed st (NewStep t) → Alike st b → PlanAlike ((next st (NewStep t)).plan) (enter (NewStep t) b).plan
alike_at_step st t b g a al = ⊎_elim
    (λ e. let f : b.phase ≡ MethodOpen = sym al.phase ∙ e in rw (e, f) al.plan)
    (λ e. let f : b.phase ≡ Initial = sym al.phase ∙ e in rw (e, f)
    (subst (λ (z : BookPlan). PlanAlike (plan_step st.plan t) (write_step z t)) (by_plan_is st.plan b.plan al.plan)
    (record { steps = refl; links = refl; order = step_alike st.tasks st.plan g.sound b.plan.before al.plan.order t })))
    a.1

alike_at_order : (st : State) (p : ℕ) (q : ℕ) (b : Book) → GoodState st → Allowed st (PutOrder p q) → Alike st b → PlanAlike ((next st (PutOrder p q)).plan) (enter (PutOrder p q) b).plan
alike_at_order st p q b g a al =
    let there : PlanAlike (plan_order st.plan p q) (write_order b.plan p q) = record { steps = al.plan.steps; links = al.plan.links; order = order_alike st.tasks st.plan g.sound b.plan.before al.plan.order p q } in
    ⊎_elim
    (λ m. let e = m.0 in let f : b.phase ≡ MethodOpen = sym al.phase ∙ e in rw (e, f) al.plan)
    (λ m. ⊎_elim (λ e. let f : b.phase ≡ Initial = sym al.phase ∙ e in rw (e, f) there) (λ e. let f : b.phase ≡ Refine = sym al.phase ∙ e in rw (e, f) there) m.0)
    a

alike_at_link : (st : State) (p : ℕ) (i : ℕ) (q : ℕ) (j : ℕ) (b : Book) → GoodState st → Allowed st (PutLink p i q j) → Alike st b → PlanAlike ((next st (PutLink p i q j)).plan) (enter (PutLink p i q j) b).plan
alike_at_link st p i q j b g a al =
    let l : Link = record { producer = p; add = i; consumer = q; need = j } in
    let there : PlanAlike (plan_link st.tasks st.plan l) (write_link b.tasks b.plan l) =
    subst (λ (ts : List Task). PlanAlike (plan_link st.tasks st.plan l) (write_link ts b.plan l)) al.tasks
    (subst (λ (z : BookPlan). PlanAlike (plan_link st.tasks st.plan l) (write_link st.tasks z l)) (by_plan_is st.plan b.plan al.plan)
    (record { steps = refl; links = refl; order = link_alike st.tasks st.plan g.sound b.plan.before al.plan.order l })) in
    ⊎_elim
    (λ m. let e = m.0 in let f : b.phase ≡ MethodOpen = sym al.phase ∙ e in rw (e, f) al.plan)
    (λ m. ⊎_elim (λ e. let f : b.phase ≡ Initial = sym al.phase ∙ e in rw (e, f) there) (λ e. let f : b.phase ≡ Refine = sym al.phase ∙ e in rw (e, f) there) m.0)
    a

alike_at_decompose : (st : State) (s : ℕ) (m : ℕ) (b : Book) → GoodState st → Allowed st (Decompose s m) → Alike st b → PlanAlike ((next st (Decompose s m)).plan) (enter (Decompose s m) b).plan
alike_at_decompose st s m b g a al =
    let n : Method = a.1.0 in
    let q : Plan = a.1.3.0 in
    let f : b.phase ≡ Refine = sym al.phase ∙ a.0 in
    let hn : slice_get b.methods m ≡ Some n = ap (λ (ms : List Method). slice_get ms m) (sym al.methods) ∙ a.1.1 in
    let r = order_as_book st.tasks st.plan g.sound b.plan.before al.plan.order s n q a.1.3.1 in
    let there : PlanAlike q (decomposed b.tasks b.plan s n) =
    subst (λ (ts : List Task). PlanAlike q (decomposed ts b.plan s n)) al.tasks
    (subst (λ (z : BookPlan). PlanAlike q (decomposed st.tasks z s n)) (by_plan_is st.plan b.plan al.plan)
    (record { steps = r.0; links = r.1; order = r.3 })) in
    let book_is : decomposed b.tasks b.plan s n ≡ (enter (Decompose s m) b).plan =
    sym (ap (λ (ph : Phase). (cond (is_refine ph) (decompose_by b s (slice_get b.methods m)) b).plan) f ∙ ap (λ (o : Option Method). (decompose_by b s o).plan) hn) in
    subst₂ (λ (x : Plan) (z : BookPlan). PlanAlike x z) (sym (plan_x st s m a.0 n a.1.1 q a.1.3.1)) book_is there

alike_at_take : (st : State) (s : ℕ) (b : Book) → GoodState st → Allowed st (Take s) → Alike st b → PlanAlike ((next st (Take s)).plan) (enter (Take s) b).plan
alike_at_take st s b g a al = let f : b.phase ≡ Running = sym al.phase ∙ a.0 in rw f al.plan

plan_alike : (st : State) (l : Command) (b : Book) → GoodState st → Allowed st l → Alike st b → PlanAlike ((next st l).plan) (enter l b).plan
plan_alike st NewPrimitive b g a al = al.plan
plan_alike st NewCompound b g a al = al.plan
plan_alike st (AppendNeed t f) b g a al = al.plan
plan_alike st (AppendAdd t f) b g a al = al.plan
plan_alike st (AppendDelete t f) b g a al = al.plan
plan_alike st EndPhase b g a al = al.plan
plan_alike st (OpenMethod t) b g a al = al.plan
plan_alike st (NewStep t) b g a al = alike_at_step st t b g a al
plan_alike st (PutOrder p q) b g a al = alike_at_order st p q b g a al
plan_alike st (PutLink p i q j) b g a al = alike_at_link st p i q j b g a al
plan_alike st (RouteNeed j s k) b g a al = al.plan
plan_alike st (RouteAdd i s k) b g a al = al.plan
plan_alike st CloseMethod b g a al = al.plan
plan_alike st (Decompose s m) b g a al = alike_at_decompose st s m b g a al
plan_alike st Judge b g a al = al.plan
plan_alike st (Take s) b g a al = alike_at_take st s b g a al

pub alike_next : (st : State) (l : Command) (b : Book) → GoodState st → Allowed st l → Alike st b → Alike (next st l) (fed b (Ok l) 0)
alike_next st l b g a al = record {
  phase = ap (phase_after l) al.phase;
  tasks = tasks_alike l st b al.phase al.tasks;
  methods = methods_alike l st b al.phase al.draft al.methods;
  draft = draft_alike l st b al.phase al.tasks al.draft;
  plan = plan_alike st l b g a al;
}
