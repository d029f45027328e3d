-- A decomposition keeps a plan sound.
use Rattle.std.proofs.Common.{◌≡◌, ℕ, zero, suc, ◌+◌, ◌-◌, ◌<◌, Bool, true, false, eqb, ◌⊎◌, List, [], ◌∷◌, ◌++◌, map, length, set, Some, None, Option, sym, refl, ap, ◌∙◌, subst, inl, inr, ⊎_elim, add-zero, suc-add, zero-add, arith, length-set}
use Rattle.std.proofs.lemmas.Bool.{cases_eq, eqb-false, eqb-true}
use Rattle.std.specs.List.{slice_get}
use Rattle.semantics.specs.Closures.{pair}
use Rattle.semantics.specs.Decomposing.{after_new, before_new, by_link, decompose_step, in_method, Inherits, kept, links_after, moved, New, passed_down, Primitive, renumbered, steps_after}
use Rattle.semantics.specs.Methods.{Fits, Method, own_task_of}
use Rattle.semantics.specs.Orders.{Holds, In}
use Rattle.semantics.specs.Plans.{at_task, Linked, Plan, present_from, Protects, Sound, steps_of, task_of}
use Rattle.semantics.specs.Tasks.{Labelled, Task}
use Rattle.semantics.specs.declared.link.Link.{Link}
use Rattle.semantics.proofs.Closures.{chained_into}
use Rattle.semantics.proofs.Decomposing.{order_as_book}
use Rattle.semantics.proofs.Links.{linked_withs}

pub nth_left : {X : Type 0} (xs ys : List X) (i : ℕ) (x : X) → slice_get xs i ≡ Some x → slice_get (xs ++ ys) i ≡ Some x
nth_left [] ys i x h = let w : ⊥ = grind arith in absurd w
nth_left (y ∷ xs) ys zero x h = h
nth_left (y ∷ xs) ys (suc i) x h = nth_left xs ys i x h

pub nth_right : {X : Type 0} (xs ys : List X) (k : ℕ) → slice_get (xs ++ ys) (length xs + k) ≡ slice_get ys k
nth_right [] ys k = ap (slice_get ys) (zero-add k)
nth_right (x ∷ xs) ys k = ap (slice_get (x ∷ (xs ++ ys))) (suc-add (length xs) k) ∙ nth_right xs ys k

pub nth_below : {X : Type 0} (xs : List X) (i : ℕ) (x : X) → slice_get xs i ≡ Some x → i < length xs
nth_below [] i x h = let w : ⊥ = grind arith in absurd w
nth_below (y ∷ xs) zero x h = omega arith
nth_below (y ∷ xs) (suc i) x h = let ih = nth_below xs i x h in omega arith

pub nth_there : {X : Type 0} (xs : List X) (i : ℕ) → i < length xs → (x : X) × (slice_get xs i ≡ Some x)
nth_there [] i h = let w : ⊥ = omega arith in absurd w
nth_there (y ∷ xs) zero h = (y, refl)
nth_there (y ∷ xs) (suc i) h = nth_there xs i (omega arith)

pub nth_set_other : {X : Type 0} (xs : List X) (s i : ℕ) (v : X) → (i ≡ s → ⊥) → slice_get (set xs s v) i ≡ slice_get xs i
nth_set_other [] s i v h = refl
nth_set_other (x ∷ xs) zero zero v h = absurd (h refl)
nth_set_other (x ∷ xs) zero (suc i) v h = refl
nth_set_other (x ∷ xs) (suc s) zero v h = refl
nth_set_other (x ∷ xs) (suc s) (suc i) v h = nth_set_other xs s i v (λ e. h (ap suc e))

pub nth_map : (xs : List ℕ) (i x : ℕ) → slice_get xs i ≡ Some x → slice_get (map Some xs) i ≡ Some (Some x)
nth_map [] i x h = let w : ⊥ = grind arith in absurd w
nth_map (y ∷ xs) zero x h = cc
nth_map (y ∷ xs) (suc i) x h = nth_map xs i x h

pub number_in : (os : List (Option ℕ)) (k i t : ℕ) → slice_get os i ≡ Some (Some t) → In (i + k) (present_from k os)
number_in [] k i t h = let w : ⊥ = grind arith in absurd w
number_in (None ∷ os) k zero t h = let w : ⊥ = grind arith in absurd w
number_in (Some n ∷ os) k zero t h = inl (omega arith)
number_in (None ∷ os) k (suc i) t h = let ih = number_in os (suc k) i t h in grind arith
number_in (Some n ∷ os) k (suc i) t h = let ih = number_in os (suc k) i t h in inr (grind arith)

pub in_number : (os : List (Option ℕ)) (k x : ℕ) → In x (present_from k os) → (i : ℕ) × (t : ℕ) × (x ≡ i + k) × (slice_get os i ≡ Some (Some t))
in_number [] k x h = absurd h
in_number (None ∷ os) k x h = let r = in_number os (suc k) x h in (suc r.0, r.1, omega (arith, r.2), r.3)
in_number (Some n ∷ os) k x (inl e) = (0, n, omega arith, refl)
in_number (Some n ∷ os) k x (inr h) = let r = in_number os (suc k) x h in (suc r.0, r.1, omega (arith, r.2), r.3)

pub nth_append_cases : {X : Type 0} (xs ys : List X) (i : ℕ) (v : X) → slice_get (xs ++ ys) i ≡ Some v → (slice_get xs i ≡ Some v) ⊎ ((k : ℕ) × (slice_get ys k ≡ Some v))
nth_append_cases [] ys i v h = inr (i, h)
nth_append_cases (x ∷ xs) ys zero v h = inl h
nth_append_cases (x ∷ xs) ys (suc i) v h = nth_append_cases xs ys i v h

pub nth_set_same : {X : Type 0} (xs : List X) (s : ℕ) (v w : X) → slice_get xs s ≡ Some w → slice_get (set xs s v) s ≡ Some v
nth_set_same [] s v w h = let z : ⊥ = grind arith in absurd z
nth_set_same (x ∷ xs) zero v w h = refl
nth_set_same (x ∷ xs) (suc s) v w h = nth_set_same xs s v w h

pub map_nth : (xs : List ℕ) (i t : ℕ) → slice_get (map Some xs) i ≡ Some (Some t) → slice_get xs i ≡ Some t
map_nth [] i t h = let w : ⊥ = grind arith in absurd w
map_nth (x ∷ xs) zero t h = cc
map_nth (x ∷ xs) (suc i) t h = map_nth xs i t h

pub at_some : (ts : List Task) (o : Option (Option ℕ)) (t : Task) → at_task ts o ≡ Some t → (n : ℕ) × (o ≡ Some (Some n)) × (slice_get ts n ≡ Some t)
at_some ts None t h = let w : ⊥ = grind arith in absurd w
at_some ts (Some None) t h = let w : ⊥ = grind arith in absurd w
at_some ts (Some (Some n)) t h = (n, refl, h)

pub linked_append : (l : Link) (xs ys : List Link) → Linked l (xs ++ ys) → Linked l xs ⊎ Linked l ys
linked_append l [] ys h = inr h
linked_append l (x ∷ xs) ys h = let ih = linked_append l xs ys in grind arith

pub linked_map : (f : Link → Link) (l : Link) (xs : List Link) → Linked l (map f xs) → (k : Link) × Linked k xs × (l ≡ f k)
linked_map f l [] h = absurd h
linked_map f l (x ∷ xs) (inl e) = (x, inl refl, e)
linked_map f l (x ∷ xs) (inr h) = let r = linked_map f l xs h in (r.0, inr r.1, r.2)

module _ (ts : List Task) (p : Plan) (sound : Sound ts p) (s : ℕ) (m : Method) (fits : Fits ts m) (is_s : slice_get p.steps s ≡ Some (Some m.task)) where
  n : ℕ
  n = length p.steps

  ss : List (Option ℕ)
  ss = steps_after p s m

  -- a step that stays keeps its task
  stays : (x : ℕ) (t : Task) → (x ≡ s → ⊥) → task_of ts p x ≡ Some t → at_task ts (slice_get ss x) ≡ Some t
  unfolding ss
  stays x t apart h =
      let r = at_some ts (slice_get p.steps x) t h in
      let k : slice_get (set p.steps s None) x ≡ Some (Some r.0) = nth_set_other p.steps s x None apart ∙ r.1 in
      ap (at_task ts) (nth_left (set p.steps s None) (map Some m.steps) x (Some r.0) k) ∙ r.2

  -- a step of the method has its task under its new number
  joins : (a : ℕ) → slice_get ss (n + a) ≡ slice_get (map Some m.steps) a
  unfolding ss n
  joins a = ap (λ (k : ℕ). slice_get ss (k + a)) (sym (length-set p.steps s None)) ∙ nth_right (set p.steps s None) (map Some m.steps) a

  joins_task : (a : ℕ) (u : Task) → own_task_of ts m a ≡ Some u → at_task ts (slice_get ss (n + a)) ≡ Some u
  joins_task a u h = ap (at_task ts) (joins a) ∙ h

  task_of_s : (t : Task) → task_of ts p s ≡ Some t → t ≡ fits.task
  task_of_s t h = let k : at_task ts (slice_get p.steps s) ≡ slice_get ts m.task = ap (at_task ts) is_s in let z = fits.is_task in cc

  -- the producer's end of a link, passed down
  from_end : (l : Link) (f : ℕ) → Protects ts p l f → (u : Task) × (at_task ts (slice_get ss (passed_down n s m l).producer) ≡ Some u) × Labelled u.adds (passed_down n s m l).add f
  from_end l f pr = at (eqb l.producer s) refl
    where
      at : (b : Bool) → eqb l.producer s ≡ b → (u : Task) × (at_task ts (slice_get ss (moved b n (m.adds_go l.add) l.producer l.add).0) ≡ Some u) × Labelled u.adds (moved b n (m.adds_go l.add) l.producer l.add).1 f
      at false e = (pr.giver, stays l.producer pr.giver (λ h. eqb-false l.producer s e h) pr.gives, pr.added)
      at true e =
          let is : l.producer ≡ s = eqb-true l.producer s e in
          let g : pr.giver ≡ fits.task = task_of_s pr.giver (subst (λ (x : ℕ). task_of ts p x ≡ Some pr.giver) is pr.gives) in
          let r = fits.adds l.add f (subst (λ (t : Task). Labelled t.adds l.add f) g pr.added) in
          let go = r.3 in
          rw go (r.2, joins_task r.0 r.2 r.4, r.5)

  to_end : (l : Link) (f : ℕ) → Protects ts p l f → (u : Task) × (at_task ts (slice_get ss (passed_down n s m l).consumer) ≡ Some u) × Labelled u.needs (passed_down n s m l).need f
  to_end l f pr = at (eqb l.consumer s) refl
    where
      at : (b : Bool) → eqb l.consumer s ≡ b → (u : Task) × (at_task ts (slice_get ss (moved b n (m.needs_go l.need) l.consumer l.need).0) ≡ Some u) × Labelled u.needs (moved b n (m.needs_go l.need) l.consumer l.need).1 f
      at false e = (pr.taker, stays l.consumer pr.taker (λ h. eqb-false l.consumer s e h) pr.takes, pr.needed)
      at true e =
          let is : l.consumer ≡ s = eqb-true l.consumer s e in
          let g : pr.taker ≡ fits.task = task_of_s pr.taker (subst (λ (x : ℕ). task_of ts p x ≡ Some pr.taker) is pr.takes) in
          let r = fits.needs l.need f (subst (λ (t : Task). Labelled t.needs l.need f) g pr.needed) in
          let go = r.3 in
          rw go (r.2, joins_task r.0 r.2 r.4, r.5)

  -- both ends of a link of the new plan name one fact
  Ends : Link → Type 0
  Ends l = (f : ℕ) × (u : Task) × (v : Task) × (at_task ts (slice_get ss l.producer) ≡ Some u) × (at_task ts (slice_get ss l.consumer) ≡ Some v) × Labelled u.adds l.add f × Labelled v.needs l.need f

  ends : (l : Link) → Linked l (links_after p s m) → Ends l
  unfolding Ends n
  ends l i = ⊎_elim old new (linked_append l (map (passed_down n s m) p.links) (map (renumbered n) m.links) (⊎_elim (λ z. absurd z) (λ z. z) (linked_withs l [] (map (passed_down n s m) p.links ++ map (renumbered n) m.links) i)))
    where
      old : Linked l (map (passed_down n s m) p.links) → Ends l
      old h =
          let r = linked_map (passed_down n s m) l p.links h in
          let fit = sound.links_fit r.0 r.1 in
          let a = from_end r.0 fit.0 fit.1 in
          let b = to_end r.0 fit.0 fit.1 in
          subst Ends (sym r.2) (fit.0, a.0, b.0, a.1, b.1, a.2, b.2)

      new : Linked l (map (renumbered n) m.links) → Ends l
      new h =
          let r = linked_map (renumbered n) l m.links h in
          let fit = fits.links r.0 r.1 in
          subst Ends (sym r.2) (fit.0, fit.1, fit.2, joins_task r.0.producer fit.1 fit.3, joins_task r.0.consumer fit.2 fit.4, fit.5, fit.6)

  -- x is a step of the new plan
  Stays : ℕ → Type 0
  Stays x = In x (present_from 0 ss)

  at_step : (x t : ℕ) → slice_get ss x ≡ Some (Some t) → Stays x
  unfolding Stays
  at_step x t h = rw add-zero at (number_in ss 0 x t h)

  old_stays : (x : ℕ) → In x (steps_of p) → (x ≡ s → ⊥) → Stays x
  unfolding ss
  old_stays x i apart =
      let r = in_number p.steps 0 x i in
      let e : slice_get p.steps x ≡ Some (Some r.1) = ap (slice_get p.steps) (r.2 ∙ add-zero r.0) ∙ r.3 in
      at_step x r.1 (nth_left (set p.steps s None) (map Some m.steps) x (Some r.1) (nth_set_other p.steps s x None apart ∙ e))

  new_stays : (a : ℕ) → a < length m.steps → Stays (n + a)
  new_stays a h = let r = nth_there m.steps a h in at_step (n + a) r.0 (joins a ∙ nth_map m.steps a r.0 r.1)

  new_stays_at : (x : ℕ) → New n (length m.steps) x → Stays x
  new_stays_at x h =
      let e : n + (x - n) ≡ x = omega arith in
      subst Stays e (new_stays (x - n) (omega arith))

  primitive_stays : (x : ℕ) → Primitive ts ss x → Stays x
  primitive_stays x h = let r = at_some ts (slice_get ss x) h.0 h.1 in at_step x r.0 r.1

  both_stay : (x y : ℕ) → Inherits ts (Holds p.before) (length p.steps) s m ss (links_after p s m) x y → Stays x × Stays y
  unfolding n
  both_stay x y (kept h a b) = let o = sound.own_steps x y h in (old_stays x o.0 a, old_stays y o.1 b)
  both_stay x y (before_new h k) = (old_stays x (sound.own_steps x s h).0 (λ e. sound.never_itself s (subst (λ (z : ℕ). Holds p.before z s) e h)), new_stays_at y k)
  both_stay x y (after_new k h) = (new_stays_at x k, old_stays y (sound.own_steps s y h).1 (λ e. sound.never_itself s (subst (λ (z : ℕ). Holds p.before s z) e h)))
  both_stay _ _ (in_method a b ha hb h) = (new_stays a ha, new_stays b hb)
  both_stay x y (by_link l i h) = (primitive_stays x h.2, primitive_stays y h.3)

  -- every step of the new plan has a known task
  known : (x : ℕ) → Stays x → (t : Task) × (at_task ts (slice_get ss x) ≡ Some t)
  unfolding ss Stays
  known x i =
      let r = in_number ss 0 x i in
      let e : slice_get ss x ≡ Some (Some r.1) = ap (slice_get ss) (r.2 ∙ add-zero r.0) ∙ r.3 in
      let found : (t : Task) × (slice_get ts r.1 ≡ Some t) = ⊎_elim (old r.1) (λ k. fits.tasks_known k.0 r.1 (map_nth m.steps k.0 r.1 k.1)) (nth_append_cases (set p.steps s None) (map Some m.steps) x (Some r.1) e) in
      (found.0, ap (at_task ts) e ∙ found.1)
    where
      old : (t : ℕ) → slice_get (set p.steps s None) x ≡ Some (Some t) → (u : Task) × (slice_get ts t ≡ Some u)
      old t h = ⊎_elim
          (λ e. let k = nth_set_same p.steps s None (Some m.task) is_s in
          let h' : slice_get (set p.steps s None) s ≡ Some (Some t) = subst (λ (z : ℕ). slice_get (set p.steps s None) z ≡ Some (Some t)) e h in
          let w : ⊥ = grind arith in absurd w)
          (λ apart.
          let g : slice_get p.steps x ≡ Some (Some t) = sym (nth_set_other p.steps s x None apart) ∙ h in
          let inside = rw add-zero at (number_in p.steps 0 x t g) in
          let u = sound.tasks_known x inside in
          (u.0, sym (ap (at_task ts) g) ∙ u.1))
          (cases_eq x s)

  -- A step of a sound plan decomposed by a method that fits leaves the plan sound.
  pub decomposed_sound : (q : Plan) → decompose_step ts p s m ≡ Some q → Sound ts q
  unfolding ss Stays Ends
  decomposed_sound q e =
      let r = order_as_book ts p sound (Holds p.before) (λ a b. (λ h. h, λ h. h)) s m q e in
      let pl : Plan = record { steps = ss; links = links_after p s m; before = q.before } in
      let is : pl ≡ q = λ i. record { steps = sym r.0 i; links = sym r.1 i; before = q.before } in
      subst (Sound ts) is (record {
        links_fit = λ l k. let d = ends l k in (
          d.0,
          record {
            giver = d.1;
            taker = d.2;
            gives = d.3;
            takes = d.4;
            added = d.5;
            needed = d.6;
            ordered = λ g h. (r.3 l.producer l.consumer).1 (pair (by_link l k (refl, refl, (d.1, d.3, g), (d.2, d.4, h))));
          },
        );
        never_itself = r.2.never_itself;
        passes_on = r.2.passes_on;
        tasks_known = known;
        own_steps = λ a b h. chained_into _ (λ x y. Stays x × Stays y) both_stay (λ x y z u v. (u.0, v.1)) ((r.3 a b).0 h);
      })
