-- Why a plan that can be carried out meets each need, and why a threat comes true in some permitted order.
use Rattle.std.proofs.Common.{◌≡◌, ℕ, zero, suc, ◌+◌, ◌≤◌, true, false, cond, ◌⊎◌, List, [], ◌∷◌, Some, None, Option, sym, refl, subst, inl, inr, ⊎_elim, arith}
use Rattle.std.proofs.lemmas.Bool.{cases_Bool, cases_eq}
use Rattle.std.specs.List.{slice_get}
use Rattle.semantics.specs.Facts.{after_step, among, CanTake, facts_after, Taken}
use Rattle.semantics.specs.Orders.{Holds, In, Once, Strict}
use Rattle.semantics.specs.Plans.{at_task, Executable, Linked, Plan, present_from, Protects, Sound, steps_of, task_of, Threat}
use Rattle.semantics.specs.States.{done}
use Rattle.semantics.specs.Tasks.{Labelled, Task}
use Rattle.semantics.specs.Theorems.{NeedsAreMet, SomeStepIsNext, ThreatComesTrue}
use Rattle.semantics.specs.declared.link.Link.{Link}
use Rattle.semantics.proofs.Orders.{first, order_between}

pub in_among : (f : ℕ) (fs : List ℕ) → In f fs → among f fs ≡ true
in_among f [] i = absurd i
in_among f (g ∷ gs) i = let ih = in_among f gs in grind arith

pub among_in : (f : ℕ) (fs : List ℕ) → among f fs ≡ true → In f fs
among_in f [] h = grind arith
among_in f (g ∷ gs) h = let ih = among_in f gs in grind arith

pub labelled_in : (fs : List ℕ) (j f : ℕ) → Labelled fs j f → In f fs
labelled_in [] j f h = grind arith
labelled_in (g ∷ gs) zero f h = inl (cc)
labelled_in (g ∷ gs) (suc j) f h = inr (labelled_in gs j f h)

pub in_labelled : (fs : List ℕ) (f : ℕ) → In f fs → (j : ℕ) × Labelled fs j f
in_labelled [] f i = absurd i
in_labelled (g ∷ gs) f (inl e) = (0, cc)
in_labelled (g ∷ gs) f (inr i) = let r = in_labelled gs f i in (suc r.0, r.1)

-- whether a number stands in a list
pub in_or_not : (x : ℕ) (xs : List ℕ) → In x xs ⊎ (In x xs → ⊥)
in_or_not x [] = inr (λ i. i)
in_or_not x (y ∷ ys) = let ih = in_or_not x ys in let e = cases_eq x y in grind arith

-- the numbers of the steps
pub numbers_in : (ts : List Task) (os : List (Option ℕ)) (k i : ℕ) (t : Task) → at_task ts (slice_get os i) ≡ Some t → In (i + k) (present_from k os)
numbers_in ts [] k i t h = grind arith
numbers_in ts (None ∷ os) k zero t h = grind arith
numbers_in ts (Some n ∷ os) k zero t h = grind arith
numbers_in ts (None ∷ os) k (suc i) t h = let ih = numbers_in ts os (suc k) i t h in grind arith
numbers_in ts (Some n ∷ os) k (suc i) t h = let ih = numbers_in ts os (suc k) i t h in inr (grind arith)

pub numbers_from : (os : List (Option ℕ)) (k x : ℕ) → In x (present_from k os) → k ≤ x
numbers_from [] k x i = absurd i
numbers_from (None ∷ os) k x i = let ih = numbers_from os (suc k) x i in omega arith
numbers_from (Some n ∷ os) k x (inl e) = omega arith
numbers_from (Some n ∷ os) k x (inr i) = let ih = numbers_from os (suc k) x i in omega arith

pub numbers_once : (os : List (Option ℕ)) (k : ℕ) → Once (present_from k os)
numbers_once [] k = tt
numbers_once (None ∷ os) k = numbers_once os (suc k)
numbers_once (Some n ∷ os) k = (λ i. let h = numbers_from os (suc k) k i in omega arith, numbers_once os (suc k))

pub step_in : (ts : List Task) (p : Plan) (s : ℕ) (t : Task) → task_of ts p s ≡ Some t → In s (steps_of p)
step_in ts p s t h = let i = numbers_in ts p.steps 0 s t h in grind (arith, i)

-- what is before a taken step is taken
pub behind_taken : (p : Plan) (done : List ℕ) → Taken p done → (x s : ℕ) → In s done → Holds p.before x s → In x done
behind_taken p [] t x s i h = i
behind_taken p (d ∷ ds) t x s i h = let ih = behind_taken p ds t.1 x s in let b = t.0.behind x in grind arith

module _ (ts : List Task) (p : Plan) (sound : Sound ts p) (exec : Executable ts p) where
  -- While the producer of a link is taken and its consumer is not, no step that is taken deletes its fact.
  spares : (l : Link) (f : ℕ) → Linked l p.links → Protects ts p l f → (done : List ℕ) → Taken p done → In l.producer done
      → (s : ℕ) (t : Task) → task_of ts p s ≡ Some t → CanTake p done s → (In l.consumer done → ⊥) → (s ≡ l.consumer → ⊥) → among f t.deletes ≡ false
  spares l f il pr done taken ip s t e can out apart = ⊎_elim (λ d. absurd (exec.no_threat l f il pr s (threat d))) (λ d. d) (cases_Bool (among f t.deletes))
    where
      threat : among f t.deletes ≡ true → Threat ts p l f s
      threat d = record {
        task = t;
        is_step = e;
        deletes = among_in f t.deletes d;
        not_producer = λ h. can.untaken (subst (λ (x : ℕ). In x done) (sym h) ip);
        not_consumer = apart;
        not_before = λ h. can.untaken (behind_taken p done taken s l.producer ip h);
        not_after = λ h. out (can.behind l.consumer h);
      }

  -- From the taking of its producer until that of its consumer, the fact of a link holds.
  pub link_holds : (l : Link) (f : ℕ) → Linked l p.links → Protects ts p l f → (done : List ℕ) → Taken p done
      → In l.producer done → (In l.consumer done → ⊥) → facts_after ts p done f ≡ true
  link_holds l f il pr [] taken ip out = absurd ip
  link_holds l f il pr (s ∷ ss) taken (inl e) out =
      let a = in_among f pr.giver.adds (labelled_in pr.giver.adds l.add f pr.added) in
      let g : task_of ts p s ≡ Some pr.giver = subst (λ (x : ℕ). task_of ts p x ≡ Some pr.giver) e pr.gives in
      rw g (grind arith)
  link_holds l f il pr (s ∷ ss) taken (inr ip) out = at (link_holds l f il pr ss taken.1 ip (λ i. out (inr i))) (task_of ts p s) refl
    where
      at : facts_after ts p ss f ≡ true → (o : Option Task) → task_of ts p s ≡ o → after_step o (facts_after ts p ss) f ≡ true
      at ih None e = ih
      at ih (Some t) e =
          let d = spares l f il pr ss taken.1 ip s t e taken.0 (λ i. out (inr i)) (λ h. out (inl (sym h))) in
          grind arith

  pub needs_met : (done : List ℕ) → Taken p done → (s : ℕ) (t : Task) → task_of ts p s ≡ Some t → CanTake p done s
      → (f : ℕ) → In f t.needs → facts_after ts p done f ≡ true
  needs_met done taken s t e can f i =
      let j = in_labelled t.needs f i in
      let found = exec.all_linked s t e j.0 f j.1 in
      let l : Link = found.0 in
      let fit = sound.links_fit l found.1 in
      let pr : Protects ts p l fit.0 = fit.1 in
      let to_s : l.consumer ≡ s = found.2 in
      let at_j : l.need ≡ j.0 = found.3 in
      let here : task_of ts p s ≡ Some pr.taker = subst (λ (x : ℕ). task_of ts p x ≡ Some pr.taker) to_s pr.takes in
      let same_task : pr.taker ≡ t = cc in
      let at_need : slice_get t.needs j.0 ≡ Some fit.0 = subst (λ (u : Task). slice_get u.needs j.0 ≡ Some fit.0) same_task (subst (λ (n : ℕ). slice_get pr.taker.needs n ≡ Some fit.0) at_j pr.needed) in
      let same : fit.0 ≡ f = cc in
      let before : Holds p.before l.producer l.consumer = pr.ordered (exec.all_primitive l.producer pr.giver pr.gives) (exec.all_primitive l.consumer pr.taker pr.takes) in
      subst (λ (g : ℕ). facts_after ts p done g ≡ true) same
      (link_holds l fit.0 found.1 pr done taken (can.behind l.producer (subst (λ (c : ℕ). Holds p.before l.producer c) to_s before)) (λ k. can.untaken (subst (λ (c : ℕ). In c done) to_s k)))

pub needs_are_met : NeedsAreMet
needs_are_met = needs_met

strict : (ts : List Task) (p : Plan) → Sound ts p → Strict p.before
strict ts p s = record { never_itself = s.never_itself; passes_on = s.passes_on }

-- the numbers of a list that are not in another
pub left : List ℕ → List ℕ → List ℕ
left done [] = []
left done (x ∷ xs) = cond (among x done) (left done xs) (x ∷ left done xs)

pub in_left : (done xs : List ℕ) (x : ℕ) → In x (left done xs) → In x xs × (among x done ≡ false)
unfolding left
in_left done [] x i = absurd i
in_left done (y ∷ ys) x i = let ih = in_left done ys x in grind arith

pub left_in : (done xs : List ℕ) (x : ℕ) → In x xs → among x done ≡ false → In x (left done xs)
unfolding left
left_in done [] x i h = i
left_in done (y ∷ ys) x i h = let ih = left_in done ys x in grind arith

not_among : (x : ℕ) (xs : List ℕ) → (In x xs → ⊥) → among x xs ≡ false
not_among x xs out = let h = among_in x xs in grind arith

-- The first of the steps that are left can be taken.
pub some_step_is_next : SomeStepIsNext
some_step_is_next ts p sound done x i out = at (left done (steps_of p)) refl (left_in done (steps_of p) x i (not_among x done out))
  where
    at : (ls : List ℕ) → left done (steps_of p) ≡ ls → In x ls → (s : ℕ) × CanTake p done s
    at [] e k = absurd k
    at (m ∷ ms) e k =
        let f = first p.before (strict ts p sound) m ms in
        let s : ℕ = f.0 in
        let here = in_left done (steps_of p) s (subst (λ (ls : List ℕ). In s ls) (sym e) f.1) in (
          s,
          record {
            present = here.0;
            untaken = λ d. let b = in_among s done d in grind arith;
            behind = λ y h. ⊎_elim (λ d. among_in y done d)
                (λ d. absurd (f.2 y (subst (λ (ls : List ℕ). In y ls) e (left_in done (steps_of p) y (sound.own_steps y s h).0 d)) h)) (cases_Bool (among y done));
          },
        )

pub threat_comes_true : ThreatComesTrue
threat_comes_true ts p sound prim l f il pr s th =
    order_between p.before (strict ts p sound) (steps_of p) (numbers_once p.steps 0) l.producer s l.consumer
    (step_in ts p l.producer pr.giver pr.gives) (step_in ts p s th.task th.is_step) (step_in ts p l.consumer pr.taker pr.takes)
    th.not_producer th.not_consumer th.not_before th.not_after
    (pr.ordered (prim l.producer pr.giver pr.gives) (prim l.consumer pr.taker pr.takes))
