-- Steps, pairs and links: the open method's, or the plan's.
use Rattle.std.proofs.Common.{◌≡◌, ℕ, Bool, true, false, cond, eqb, ◌⊎◌, List, [], ◌∷◌, map, length, Some, Option, sym, refl, ap, ◌∙◌, inl, inr, ⊎_elim}
use Rattle.std.proofs.lemmas.List.{length-map}
use Rattle.line.specs.declared.command.Command.{Command}
use Rattle.line.specs.declared.command.Command.TheVariants.{AppendAdd, AppendDelete, AppendNeed, CloseMethod, Decompose, EndPhase, Judge, NewCompound, NewPrimitive, NewStep, OpenMethod, PutLink, PutOrder, RouteAdd, RouteNeed, Take}
use Rattle.page.specs.declared.answer.Row.{Row}
use Rattle.semantics.specs.Causes.{Cause, first_of, told}
use Rattle.semantics.specs.Methods.{link_of, Method, order_of, step_of}
use Rattle.semantics.specs.OpenLines.{link_causes, order_causes, step_causes}
use Rattle.semantics.specs.Orders.{Relation}
use Rattle.semantics.specs.Plans as planned
use Rattle.semantics.specs.Rules.{outside, verdict}
use Rattle.semantics.specs.States.{next, plan_link, plan_order, plan_step, State}
use Rattle.semantics.specs.declared.link.Link.{Link}
use Rattle.semantics.specs.declared.phase.Phase.{Phase}
use Rattle.semantics.specs.declared.phase.Phase.TheVariants.{Initial, MethodOpen, Methods, Refine, Running, Tasks}
use Rattle.told_domain.specs.Domains.{in_phase, of_domain, Parts, state_with, Tells, with_draft}
use Rattle.checker.proofs.Settling.{settled, Still}
use Rattle.checker.specs.Meaning.{Held}
use Rattle.checker.specs.Outcomes.{Obeys, Reached}

-- told of what parts of a state are made of
told_plan : (w : Row) (N st : State) (d : Parts) (p q : planned.Plan) (taken : List ℕ) → N ≡ state_with d q taken → st ≡ state_with d p taken → told w N st ≡ state_with d (told w q p) taken
told_plan w N st d p q taken n s = at (eqb w.code 0)
  where
    at : (b : Bool) → cond b N st ≡ state_with d (cond b q p) taken
    at true = n
    at false = s

told_domain : (w : Row) (N st : State) (d e : Parts) (p : planned.Plan) (taken : List ℕ) → N ≡ state_with e p taken → st ≡ state_with d p taken → told w N st ≡ state_with (told w e d) p taken
told_domain w N st d e p taken n s = at (eqb w.code 0)
  where
    at : (b : Bool) → cond b N st ≡ state_with (cond b e d) p taken
    at true = n
    at false = s

pub told_before : (w : Row) (ss : List (Option ℕ)) (ls : List Link) (R S : Relation)
    → ◌≡◌ {A = planned.Plan} (record { steps = ss; links = ls; before = told w S R }) (told w (record { steps = ss; links = ls; before = S }) (record { steps = ss; links = ls; before = R }))
told_before w ss ls R S = at (eqb w.code 0)
  where
    at : (b : Bool) → ◌≡◌ {A = planned.Plan} (record { steps = ss; links = ls; before = cond b S R }) (cond b (record { steps = ss; links = ls; before = S }) (record { steps = ss; links = ls; before = R }))
    at true = refl
    at false = refl

-- a refused line leaves all as it was
both_refused : (w v : Row) (N : State) (d e : Parts) (p : planned.Plan) (taken : List ℕ) → w ≡ v → eqb v.code 0 ≡ false → told w N (state_with d p taken) ≡ state_with (told w e d) p taken
both_refused w v N d e p taken is not0 =
    let f : eqb w.code 0 ≡ false = ap (λ (u : Row). eqb u.code 0) is ∙ not0 in
    ap (λ (b : Bool). cond b N (state_with d p taken)) f ∙ sym (ap (λ (b : Bool). state_with (cond b e d) p taken) f)

-- the phases in which a plan takes pairs and links
abbrev pub PlanOpen : Phase → Type 0
PlanOpen ph = (ph ≡ Initial) ⊎ (ph ≡ Refine)

module _ (capacity : ℕ) (h : Held) (w : Row) where
  abbrev D : Parts
  D = h.domain

  abbrev P : planned.Plan
  P = h.plan

  abbrev st : List ℕ → State
  st taken = state_with D P taken

  abbrev at_phase : Phase → List ℕ → State
  at_phase ph taken = state_with (in_phase ph D) P taken

  -- A line that may change the plan: its row, the plan that it makes where it is accepted, and the plan after it.
  pub by_plan : (c : Command) → Still c → (q r : planned.Plan)
      → ((taken : List ℕ) → Reached capacity (st taken) → (w ≡ verdict capacity (st taken) c) × (next (st taken) c ≡ state_with D q taken) × (r ≡ told w q P))
      → Obeys capacity c w h (record { domain = D; plan = r; progress = h.progress })
  by_plan c still q r lines taken follows reached =
      let l = lines taken reached in
      settled capacity c w h D r taken still follows reached l.0 (told_plan w (next (st taken) c) (st taken) D P q taken l.1 refl ∙ ap (λ (p : planned.Plan). state_with D p taken) (sym l.2))

  -- A line that the domain carries out.
  pub by_domain : (c : Command) → Still c → (d : Parts) → Tells D c w d → Obeys capacity c w h (record { domain = d; plan = P; progress = h.progress })
  by_domain c still d t taken follows reached = settled capacity c w h d P taken still follows reached (t.answers capacity P taken) (t.leaves P taken)

  -- A line of the open method, told in a phase in which the plan does not take it.
  draft_after : (ph : Phase) (rs : List Cause) (n : ℕ) (m : Method) (N : State) (taken : List ℕ) → w ≡ first_of ((5, outside ph (MethodOpen ∷ [])) ∷ rs) n
      → (ph ≡ MethodOpen → N ≡ state_with (with_draft m (in_phase ph D)) P taken)
      → told w N (at_phase ph taken) ≡ state_with (told w (with_draft m (in_phase ph D)) (in_phase ph D)) P taken
  draft_after Tasks rs n m N taken e k = both_refused w _ N (in_phase Tasks D) _ P taken e refl
  draft_after Methods rs n m N taken e k = both_refused w _ N (in_phase Methods D) _ P taken e refl
  draft_after MethodOpen rs n m N taken e k = told_domain w N _ (in_phase MethodOpen D) _ P taken (k refl) refl
  draft_after Initial rs n m N taken e k = both_refused w _ N (in_phase Initial D) _ P taken e refl
  draft_after Refine rs n m N taken e k = both_refused w _ N (in_phase Refine D) _ P taken e refl
  draft_after Running rs n m N taken e k = both_refused w _ N (in_phase Running D) _ P taken e refl

  pub by_draft : (c : Command) → Still c → (rs : List Cause) (n : ℕ) (m : Method) (d : Parts)
      → ((taken : List ℕ) → first_of ((5, outside D.phase (MethodOpen ∷ [])) ∷ rs) n ≡ verdict capacity (st taken) c)
      → ((taken : List ℕ) → next (at_phase MethodOpen taken) c ≡ state_with (with_draft m (in_phase MethodOpen D)) P taken)
      → w ≡ first_of ((5, outside D.phase (MethodOpen ∷ [])) ∷ rs) n
      → d ≡ told w (with_draft m D) D
      → Obeys capacity c w h (record { domain = d; plan = P; progress = h.progress })
  by_draft c still rs n m d row new e is taken follows reached =
      settled capacity c w h d P taken still follows reached (e ∙ row taken)
      (draft_after D.phase rs n m (next (st taken) c) taken e
      (λ o. ap (λ (ph : Phase). next (at_phase ph taken) c) o ∙ new taken ∙ sym (ap (λ (ph : Phase). state_with (with_draft m (in_phase ph D)) P taken) o))
      ∙ ap (λ (x : Parts). state_with x P taken) (sym is))

  -- A line of the plan in one of its phases.
  pub in_the_phase : (c : Command) (taken : List ℕ) (v : Row) (q : planned.Plan) (ph : Phase) → D.phase ≡ ph
      → v ≡ verdict capacity (at_phase ph taken) c → next (at_phase ph taken) c ≡ state_with (in_phase ph D) q taken
      → (v ≡ verdict capacity (st taken) c) × (next (st taken) c ≡ state_with D q taken)
  in_the_phase c taken v q ph e row new = (
    row ∙ sym (ap (λ (x : Phase). verdict capacity (at_phase x taken) c) e),
    ap (λ (x : Phase). next (at_phase x taken) c) e ∙ new ∙ sym (ap (λ (x : Phase). state_with (in_phase x D) q taken) e),
  )

  -- S: of the plan in phase initial, and in any other phase of the open method
  pub plan_step_line : (t : ℕ) (taken : List ℕ) → D.phase ≡ Initial
      → (first_of (step_causes D.tasks (length P.steps) capacity t) (length P.steps) ≡ verdict capacity (st taken) (NewStep t)) × (next (st taken) (NewStep t) ≡ state_with D (plan_step P t) taken)
  plan_step_line t taken e = in_the_phase (NewStep t) taken _ (plan_step P t) Initial e refl refl

  draft_step : (t : ℕ) (taken : List ℕ) (ph : Phase) → (ph ≡ Initial → ⊥)
      → first_of ((5, outside ph (MethodOpen ∷ [])) ∷ step_causes D.tasks (length D.draft.steps) 8 t) (length D.draft.steps) ≡ verdict capacity (at_phase ph taken) (NewStep t)
  draft_step t taken Tasks n = refl
  draft_step t taken Methods n = refl
  draft_step t taken MethodOpen n = ap (λ (k : ℕ). first_of (step_causes D.tasks k 8 t) k) (sym (length-map D.draft.steps Some))
  draft_step t taken Initial n = absurd (n refl)
  draft_step t taken Refine n = refl
  draft_step t taken Running n = refl

  pub draft_step_line : (t : ℕ) (d : Parts) → (D.phase ≡ Initial → ⊥)
      → w ≡ first_of ((5, outside D.phase (MethodOpen ∷ [])) ∷ step_causes D.tasks (length D.draft.steps) 8 t) (length D.draft.steps) → d ≡ told w (with_draft (step_of D.draft t) D) D
      → Obeys capacity (NewStep t) w h (record { domain = d; plan = P; progress = h.progress })
  draft_step_line t d n = by_draft (NewStep t) tt (step_causes D.tasks (length D.draft.steps) 8 t) (length D.draft.steps) (step_of D.draft t) d (λ taken. draft_step t taken D.phase n) (λ taken. refl)

  -- O and L: of the plan in the phases initial and refine, and in any other phase of the open method
  pub plan_order_line : (a b : ℕ) (taken : List ℕ) → PlanOpen D.phase
      → (first_of (order_causes P.steps P.before a b) 0 ≡ verdict capacity (st taken) (PutOrder a b)) × (next (st taken) (PutOrder a b) ≡ state_with D (plan_order P a b) taken)
  plan_order_line a b taken =
      ⊎_elim (λ e. in_the_phase (PutOrder a b) taken _ (plan_order P a b) Initial e refl refl) (λ e. in_the_phase (PutOrder a b) taken _ (plan_order P a b) Refine e refl refl)

  draft_order : (a b : ℕ) (taken : List ℕ) (ph : Phase) → (PlanOpen ph → ⊥)
      → first_of ((5, outside ph (MethodOpen ∷ [])) ∷ order_causes (map Some D.draft.steps) D.draft.before a b) 0 ≡ verdict capacity (at_phase ph taken) (PutOrder a b)
  draft_order a b taken Tasks n = refl
  draft_order a b taken Methods n = refl
  draft_order a b taken MethodOpen n = refl
  draft_order a b taken Initial n = absurd (n (inl refl))
  draft_order a b taken Refine n = absurd (n (inr refl))
  draft_order a b taken Running n = refl

  pub draft_order_line : (a b : ℕ) (d : Parts) → (PlanOpen D.phase → ⊥)
      → w ≡ first_of ((5, outside D.phase (MethodOpen ∷ [])) ∷ order_causes (map Some D.draft.steps) D.draft.before a b) 0 → d ≡ told w (with_draft (order_of D.draft a b) D) D
      → Obeys capacity (PutOrder a b) w h (record { domain = d; plan = P; progress = h.progress })
  draft_order_line a b d n = by_draft (PutOrder a b) tt (order_causes (map Some D.draft.steps) D.draft.before a b) 0 (order_of D.draft a b) d (λ taken. draft_order a b taken D.phase n) (λ taken. refl)

  pub plan_link_line : (l : Link) (taken : List ℕ) → PlanOpen D.phase
      → (first_of (link_causes D.tasks P.steps P.links P.before 256 l) 0 ≡ verdict capacity (st taken) (PutLink l.producer l.add l.consumer l.need))
      × (next (st taken) (PutLink l.producer l.add l.consumer l.need) ≡ state_with D (plan_link D.tasks P l) taken)
  plan_link_line l taken =
      let c = PutLink l.producer l.add l.consumer l.need in
      ⊎_elim (λ e. in_the_phase c taken _ (plan_link D.tasks P l) Initial e refl refl) (λ e. in_the_phase c taken _ (plan_link D.tasks P l) Refine e refl refl)

  draft_link : (l : Link) (taken : List ℕ) (ph : Phase) → (PlanOpen ph → ⊥)
      → first_of ((5, outside ph (MethodOpen ∷ [])) ∷ link_causes D.tasks (map Some D.draft.steps) D.draft.links D.draft.before 16 l) 0 ≡ verdict capacity (at_phase ph taken) (PutLink l.producer l.add l.consumer l.need)
  draft_link l taken Tasks n = refl
  draft_link l taken Methods n = refl
  draft_link l taken MethodOpen n = refl
  draft_link l taken Initial n = absurd (n (inl refl))
  draft_link l taken Refine n = absurd (n (inr refl))
  draft_link l taken Running n = refl

  pub draft_link_line : (l : Link) (d : Parts) → (PlanOpen D.phase → ⊥)
      → w ≡ first_of ((5, outside D.phase (MethodOpen ∷ [])) ∷ link_causes D.tasks (map Some D.draft.steps) D.draft.links D.draft.before 16 l) 0 → d ≡ told w (with_draft (link_of D.tasks D.draft l) D) D
      → Obeys capacity (PutLink l.producer l.add l.consumer l.need) w h (record { domain = d; plan = P; progress = h.progress })
  draft_link_line l d n = by_draft (PutLink l.producer l.add l.consumer l.need) tt (link_causes D.tasks (map Some D.draft.steps) D.draft.links D.draft.before 16 l) 0 (link_of D.tasks D.draft l) d (λ taken. draft_link l taken D.phase n) (λ taken. refl)

-- a command that is none of the plan's letters is the domain's in every phase, and takes no step
pub of_the_domain : (ph : Phase) (c : Command) → ((t : ℕ) → c ≡ NewStep t → ⊥) → ((a b : ℕ) → c ≡ PutOrder a b → ⊥) → ((a i b j : ℕ) → c ≡ PutLink a i b j → ⊥)
    → ((s m : ℕ) → c ≡ Decompose s m → ⊥) → (c ≡ Judge → ⊥) → ((s : ℕ) → c ≡ Take s → ⊥) → (of_domain ph c ≡ true) × Still c
of_the_domain ph NewPrimitive n o l x j r = (refl, tt)
of_the_domain ph NewCompound n o l x j r = (refl, tt)
of_the_domain ph (AppendNeed t f) n o l x j r = (refl, tt)
of_the_domain ph (AppendAdd t f) n o l x j r = (refl, tt)
of_the_domain ph (AppendDelete t f) n o l x j r = (refl, tt)
of_the_domain ph EndPhase n o l x j r = (refl, tt)
of_the_domain ph (OpenMethod t) n o l x j r = (refl, tt)
of_the_domain ph (NewStep t) n o l x j r = absurd (n t refl)
of_the_domain ph (PutOrder a b) n o l x j r = absurd (o a b refl)
of_the_domain ph (PutLink a i b k) n o l x j r = absurd (l a i b k refl)
of_the_domain ph (RouteNeed i s k) n o l x j r = (refl, tt)
of_the_domain ph (RouteAdd i s k) n o l x j r = (refl, tt)
of_the_domain ph CloseMethod n o l x j r = (refl, tt)
of_the_domain ph (Decompose s m) n o l x j r = absurd (x s m refl)
of_the_domain ph Judge n o l x j r = absurd (j refl)
of_the_domain ph (Take s) n o l x j r = absurd (r s refl)
