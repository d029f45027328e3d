-- Init and goal stay at the ends of a plan, and the sequence in which steps are listed orders nothing.
use Rattle.std.proofs.Common.{◌≡◌, ℕ, ◌+◌, ◌<◌, ◌≤◌, true, cond, leb, ◌⊎◌, List, [], ◌∷◌, ◌++◌, map, length, set, Some, None, Option, sym, refl, ap, ◌∙◌, subst, subst₂, inl, inr, ⊎_elim, arith, length-append, length-set}
use mathlib.Core.Bool.{false≢true}
use lib.ListN.{length-map}
use Rattle.std.proofs.lemmas.Bool.{cases_eq, cases_lt}
use Rattle.std.specs.List.{slice_get}
use Rattle.semantics.specs.Decomposing.{after_new, before_new, by_link, decompose_step, in_method, Inherits, kept, New, Primitive, steps_after}
use Rattle.semantics.specs.Methods.{Fits, Method}
use Rattle.semantics.specs.Orders.{Holds, In, put, Relation}
use Rattle.semantics.specs.Plans.{at_task, Framed, Linked, Plan, Sound, steps_of, task_of}
use Rattle.semantics.specs.States.{plan_link, plan_order, plan_step}
use Rattle.semantics.specs.Tasks.{is_primitive, Task}
use Rattle.semantics.specs.Theorems.{SequenceOrdersNothing}
use Rattle.semantics.specs.declared.link.Link.{Link}
use Rattle.semantics.proofs.Alike.{in_more, link_keeps}
use Rattle.semantics.proofs.Closures.{chained_into}
use Rattle.semantics.proofs.Decomposes.{decomposition, gives}
use Rattle.semantics.proofs.Decomposing.{order_as_book}
use Rattle.semantics.proofs.Good.{Ends}
use Rattle.semantics.proofs.Inherited.{at_some, in_number, nth_below, nth_left, nth_set_other, nth_set_same, nth_there, number_in}
use Rattle.semantics.proofs.Orders.{put_cases, put_new, put_old}

-- ---- each line of a plan leaves it framed

pub framed_step : (p : Plan) (t : ℕ) → Framed p → Framed (plan_step p t)
framed_step p t f =
    let n = length p.steps in
    let R = p.before in
    let old : (x y : ℕ) → Holds R x y → Holds (put (put R 0 n) n 1) x y = λ x y h. put_old (put R 0 n) n 1 x y (put_old R 0 n x y h) in
    record {
      init = nth_left p.steps (Some t ∷ []) 0 (Some 0) f.init;
      goal = nth_left p.steps (Some t ∷ []) 1 (Some 1) f.goal;
      ends = old 0 1 f.ends;
      between = λ x i a b. ⊎_elim
          (λ j. let r = f.between x j a b in (old 0 x r.0, old x 1 r.1))
          (λ e. let is : n ≡ x = omega arith in
          (put_old (put R 0 n) n 1 0 x (put_new R 0 n 0 x (inl refl) (inl is)), put_new (put R 0 n) n 1 x 1 (inl (sym is)) (inl refl)))
          (in_more p.steps t 0 x i);
    }

-- more order between the same steps
more_order : (p q : Plan) → q.steps ≡ p.steps → ((x y : ℕ) → Holds p.before x y → Holds q.before x y) → Framed p → Framed q
more_order p q same old f = record {
  init = ap (λ (os : List (Option ℕ)). slice_get os 0) same ∙ f.init;
  goal = ap (λ (os : List (Option ℕ)). slice_get os 1) same ∙ f.goal;
  ends = old 0 1 f.ends;
  between = λ x i a b. let r = f.between x (subst (λ (os : List (Option ℕ)). In x (steps_of (record { steps = os; links = q.links; before = q.before }))) same i) a b in (old 0 x r.0, old x 1 r.1);
}

pub framed_order : (p : Plan) (a b : ℕ) → Framed p → Framed (plan_order p a b)
framed_order p a b f = more_order p (plan_order p a b) refl (put_old p.before a b) f

pub framed_link : (ts : List Task) (p : Plan) (l : Link) → Sound ts p → Framed p → Framed (plan_link ts p l)
framed_link ts p l sound f = more_order p (plan_link ts p l) refl (link_keeps ts p sound (Holds p.before) (λ x y. (λ k. k, λ k. k)) l) f

-- the number of a present step was given
below : (p : Plan) (x : ℕ) → In x (steps_of p) → x < length p.steps
below p x i = let r = in_number p.steps 0 x i in let b = nth_below p.steps r.0 (Some r.1) r.3 in omega (arith, r.2)

module _ (ts : List Task) (p : Plan) (s : ℕ) (m : Method) (q : Plan) (sound : Sound ts p) (fits : Fits ts m)
    (is_s : slice_get p.steps s ≡ Some (Some m.task)) (e : decompose_step ts p s m ≡ Some q) where
  steps_made : q.steps ≡ steps_after p s m
  steps_made = (order_as_book ts p sound (Holds p.before) (λ x y. (λ k. k, λ k. k)) s m q e).0

  -- a step that stays has the task that it had
  stays : (x t : ℕ) → slice_get p.steps x ≡ Some (Some t) → (x ≡ s → ⊥) → slice_get q.steps x ≡ Some (Some t)
  stays x t h a = ap (λ (os : List (Option ℕ)). slice_get os x) steps_made ∙ nth_left (set p.steps s None) (map Some m.steps) x (Some t) (nth_set_other p.steps s x None a ∙ h)

  -- a step after the decomposition is one that stays, or new
  stays_or_new : (x : ℕ) → In x (steps_of q) → (In x (steps_of p) × (x ≡ s → ⊥)) ⊎ New (length p.steps) (length m.steps) x
  stays_or_new x i =
      let r = in_number q.steps 0 x i in
      let t = r.1 in
      let is : r.0 ≡ x = omega (arith, r.2) in
      let here : slice_get (steps_after p s m) x ≡ Some (Some t) = ap (λ (os : List (Option ℕ)). slice_get os x) (sym steps_made) ∙ (ap (slice_get q.steps) (sym is) ∙ r.3) in
      let gone = set p.steps s None in
      let long : length gone ≡ length p.steps = length-set p.steps s None in
      ⊎_elim
      (λ l.
      let o = nth_there gone x (omega arith) in
      let left = nth_left gone (map Some m.steps) x o.0 o.1 in
      let same : slice_get gone x ≡ Some (Some t) = cc o.1 in
      let apart : x ≡ s → ⊥ = λ z. let k = nth_set_same p.steps s None (Some m.task) is_s in let w : ◌≡◌ {A = Option (Option ℕ)} (Some None) (Some (Some t)) = cc in grind arith in
      let old : slice_get p.steps x ≡ Some (Some t) = sym (nth_set_other p.steps s x None apart) ∙ same in
      inl (subst (λ (y : ℕ). In y (steps_of p)) (let z : x + 0 ≡ x = omega arith in z) (number_in p.steps 0 x t old), apart))
      (λ l.
      let b = nth_below (steps_after p s m) x (Some t) here in
      let c : length (steps_after p s m) ≡ length p.steps + length m.steps = length-append gone (map Some m.steps) ∙ (λ i. long i + length-map m.steps Some i) in
      inr (l, omega arith))
      (cases_lt x (length p.steps))

  -- init and goal are primitive, so neither is decomposed
  not_end : (k : ℕ) → slice_get p.steps k ≡ Some (Some k) → is_primitive (slice_get ts k) ≡ true → k ≡ s → ⊥
  not_end k h c z =
      let same : m.task ≡ k = cc in
      false≢true (sym fits.compound ∙ (ap is_primitive (sym fits.is_task) ∙ (ap (λ (j : ℕ). is_primitive (slice_get ts j)) same ∙ c)))

  pub framed_decomposed : Ends ts → Framed p → Framed q
  framed_decomposed ends f =
      let made = gives ts p s m sound q fits is_s e in
      let a = not_end 0 f.init ends.0 in
      let b = not_end 1 f.goal ends.1 in
      let mine = f.between s (subst (λ (y : ℕ). In y (steps_of p)) (let z : s + 0 ≡ s = omega arith in z) (number_in p.steps 0 s m.task is_s)) (λ z. a (sym z)) (λ z. b (sym z)) in
      record {
        init = stays 0 0 f.init a;
        goal = stays 1 1 f.goal b;
        ends = made.kept 0 1 f.ends a b;
        between = λ x i u v. ⊎_elim
            (λ k. let r = f.between x k.0 u v in (made.kept 0 x r.0 a k.1, made.kept x 1 r.1 k.1 b))
            (λ k. (made.before_new 0 x mine.0 k, made.after_new x 1 k mine.1))
            (stays_or_new x i);
      }

  -- ---- new steps are not ordered by where they stand in the method

  module _ (no_order : (a b : ℕ) → Holds m.before a b → ⊥) (no_links : m.links ≡ []) (free : (l : Link) → Linked l p.links → (l.producer ≡ s → ⊥) × (l.consumer ≡ s → ⊥)) where
    -- the step of the plan before that a step comes from
    from : ℕ → ℕ
    from x = cond (leb (length p.steps) x) s x

    from_old : (x : ℕ) → x < length p.steps → from x ≡ x
    unfolding from
    from_old x h = grind arith

    from_new : (x : ℕ) → New (length p.steps) (length m.steps) x → from x ≡ s
    unfolding from
    from_new x h = let l = h.0 in grind arith

    -- a step that stays and is primitive was so
    was_primitive : (x : ℕ) (u : Task) → task_of ts p x ≡ Some u → (x ≡ s → ⊥) → Primitive ts q.steps x → u.primitive ≡ true
    was_primitive x u h a r =
        let o = at_some ts (slice_get p.steps x) u h in
        let now = stays x o.0 o.1 a in
        let same : at_task ts (slice_get q.steps x) ≡ Some u = ap (at_task ts) (now ∙ sym o.1) ∙ h in
        let is : r.0 ≡ u = cc r.1 in
        ap (λ (t : Task). t.primitive) (sym is) ∙ r.2

    linked_old : (x y : ℕ) (l : Link) → Linked l p.links → x ≡ l.producer → y ≡ l.consumer → Primitive ts q.steps x → Primitive ts q.steps y → Holds p.before (from x) (from y)
    linked_old x y l i ex ey px py =
        let apart = free l i in
        let r = (sound.links_fit l i).1 in
        let first = was_primitive l.producer r.giver r.gives apart.0 (subst (Primitive ts q.steps) ex px) in
        let second = was_primitive l.consumer r.taker r.takes apart.1 (subst (Primitive ts q.steps) ey py) in
        let h = r.ordered first second in
        let own = sound.own_steps l.producer l.consumer h in
        subst₂ (λ (a b : ℕ). Holds p.before a b)
        (sym (ap from ex ∙ from_old l.producer (below p l.producer own.0))) (sym (ap from ey ∙ from_old l.consumer (below p l.consumer own.1))) h

    pairs : (x y : ℕ) → Inherits ts (Holds p.before) (length p.steps) s m q.steps q.links x y → Holds p.before (from x) (from y)
    pairs x y (kept h a b) =
        let own = sound.own_steps x y h in
        subst₂ (λ (a b : ℕ). Holds p.before a b) (sym (from_old x (below p x own.0))) (sym (from_old y (below p y own.1))) h
    pairs x y (before_new h k) =
        let own = sound.own_steps x s h in
        subst₂ (λ (a b : ℕ). Holds p.before a b) (sym (from_old x (below p x own.0))) (sym (from_new y k)) h
    pairs x y (after_new k h) =
        let own = sound.own_steps s y h in
        subst₂ (λ (a b : ℕ). Holds p.before a b) (sym (from_new x k)) (sym (from_old y (below p y own.1))) h
    pairs x y (in_method a b ha hb h) = absurd (no_order a b h)
    pairs x y (by_link l i k) = ⊎_elim
        (λ r.
        let old = r.0 in
        let apart = free old r.1 in
        let arrives = decomposition.arrives (length p.steps) s m in
        let ex = k.0 ∙ (ap (λ (z : Link). z.producer) r.2 ∙ (arrives.other_producer old apart.0).0) in
        let ey = k.1 ∙ (ap (λ (z : Link). z.consumer) r.2 ∙ (arrives.other_consumer old apart.1).0) in
        linked_old x y old r.1 ex ey k.2 k.3)
        (λ r. absurd (subst (Linked r.0) no_links r.1))
        ((gives ts p s m sound q fits is_s e).no_other l i)

    pub unordered : (x y : ℕ) → New (length p.steps) (length m.steps) x → New (length p.steps) (length m.steps) y → Holds q.before x y → ⊥
    unordered x y hx hy h =
        let made = gives ts p s m sound q fits is_s e in
        let back = chained_into _ (λ (a b : ℕ). Holds p.before (from a) (from b)) pairs (λ a b c. sound.passes_on (from a) (from b) (from c)) ((made.order x y).0 h) in
        sound.never_itself s (subst₂ (λ (a b : ℕ). Holds p.before a b) (from_new x hx) (from_new y hy) back)

-- ---- a step told to a plan

-- only numbers below n are related; nothing is before init, and nothing after goal
record Outer (R : Relation) (n : ℕ) : Type 0 where
  both : 2 ≤ n
  init_first : (x : ℕ) → Holds R x 0 → ⊥
  goal_last : (y : ℕ) → Holds R 1 y → ⊥
  given : (x y : ℕ) → Holds R x y → (x < n) × (y < n)

-- the order with a new step n
abbrev more : Relation → ℕ → Relation
more R n = put (put R 0 n) n 1

more_cases : (R : Relation) (n : ℕ) → Outer R n → (x y : ℕ) → Holds (more R n) x y → Holds R x y ⊎ (((x ≡ 0) × (y ≡ n)) ⊎ (((x ≡ n) ⊎ (x ≡ 0)) × (y ≡ 1)))
more_cases R n o x y h = ⊎_elim
    (λ k. ⊎_elim (λ r. inl r) (λ r. inr (inl r)) (one x y k))
    (λ k. inr (inr (
      ⊎_elim (λ e. inl e) (λ r. ⊎_elim (λ j. let b = o.given x n j in absurd (omega (arith, b.1))) (λ j. inr j.0) (one x n r)) k.0,
      ⊎_elim (λ e. sym e) (λ r. ⊎_elim (λ j. absurd (o.goal_last y j)) (λ j. absurd (omega (arith, j.0))) (one 1 y r)) k.1,
    )))
    (put_cases (put R 0 n) n 1 x y h)
  where
    one : (u v : ℕ) → Holds (put R 0 n) u v → Holds R u v ⊎ ((u ≡ 0) × (v ≡ n))
    one u v k = ⊎_elim inl
        (λ t. inr (⊎_elim (λ e. e) (λ r. absurd (o.init_first u r)) t.0, ⊎_elim (λ e. sym e) (λ r. let b = o.given n v r in absurd (omega (arith, b.0))) t.1))
        (put_cases R 0 n u v k)

outer_more : (R : Relation) (n k : ℕ) → n < k → Outer R n → Outer (more R n) k
outer_more R n k l o = record {
  both = omega (arith, o.both);
  init_first = λ x h. ⊎_elim (o.init_first x) (⊎_elim (λ r. omega (arith, r.1, o.both)) (λ r. omega (arith, r.1))) (more_cases R n o x 0 h);
  goal_last = λ y h. ⊎_elim (o.goal_last y) (⊎_elim (λ r. omega (arith, r.0)) (λ r. ⊎_elim (λ e. omega (arith, o.both)) (λ e. omega arith) r.0)) (more_cases R n o 1 y h);
  given = λ x y h. ⊎_elim (λ r. let b = o.given x y r in (omega (arith, b.0), omega (arith, b.1)))
      (⊎_elim (λ r. (omega (arith, r.0), omega (arith, r.1))) (λ r. (⊎_elim (λ e. omega arith) (λ e. omega (arith, o.both)) r.0, omega (arith, r.1, o.both))))
      (more_cases R n o x y h);
}

only_init : (R : Relation) (n : ℕ) → Outer R n → (x : ℕ) → Holds (more R n) x n → x ≡ 0
only_init R n o x h = ⊎_elim (λ r. let b = o.given x n r in absurd (omega (arith, b.1))) (⊎_elim (λ r. r.0) (λ r. absurd (omega (arith, r.1, o.both)))) (more_cases R n o x n h)

only_goal : (R : Relation) (n : ℕ) → Outer R n → (y : ℕ) → Holds (more R n) n y → y ≡ 1
only_goal R n o y h = ⊎_elim (λ r. let b = o.given n y r in absurd (omega (arith, b.0))) (⊎_elim (λ r. absurd (omega (arith, r.0, o.both))) (λ r. r.1)) (more_cases R n o n y h)

outer : (ts : List Task) (p : Plan) → Sound ts p → Framed p → Outer p.before (length p.steps)
outer ts p sound f = record {
  both = let b = nth_below p.steps 1 (Some 1) f.goal in omega arith;
  init_first = λ x h. sound.never_itself 0 (⊎_elim
      (λ e. subst (λ (z : ℕ). Holds p.before z 0) e h)
      (λ a. ⊎_elim
      (λ e. sound.passes_on 0 1 0 f.ends (subst (λ (z : ℕ). Holds p.before z 0) e h))
      (λ b. sound.passes_on 0 x 0 (f.between x (sound.own_steps x 0 h).0 a b).0 h)
      (cases_eq x 1))
      (cases_eq x 0));
  goal_last = λ y h. sound.never_itself 1 (⊎_elim
      (λ e. subst (λ (z : ℕ). Holds p.before 1 z) e h)
      (λ b. ⊎_elim
      (λ e. sound.passes_on 1 0 1 (subst (λ (z : ℕ). Holds p.before 1 z) e h) f.ends)
      (λ a. sound.passes_on 1 y 1 h (f.between y (sound.own_steps 1 y h).1 a b).1)
      (cases_eq y 0))
      (cases_eq y 1));
  given = λ x y h. let own = sound.own_steps x y h in (below p x own.0, below p y own.1);
}

two_apart : (R : Relation) (n k : ℕ) → k ≡ n + 1 → Outer R n → (Holds (more (more R n) k) n (n + 1) → ⊥) × (Holds (more (more R n) k) (n + 1) n → ⊥)
two_apart R n k e o =
    let next = outer_more R n k (omega arith) o in (
      λ h. let z = only_init (more R n) k next n (subst (λ (j : ℕ). Holds (more (more R n) k) n j) (sym e) h) in omega (arith, o.both),
      λ h. let z = only_goal (more R n) k next n (subst (λ (j : ℕ). Holds (more (more R n) k) j n) (sym e) h) in omega (arith, o.both),
    )

pub sequence_orders_nothing : SequenceOrdersNothing
sequence_orders_nothing = record {
  new_step = λ ts p t sound f x. let o = outer ts p sound f in (only_init p.before (length p.steps) o x, only_goal p.before (length p.steps) o x);
  two_steps = λ ts p t u sound f. two_apart p.before (length p.steps) (length (p.steps ++ (Some t ∷ []))) (length-append p.steps (Some t ∷ [])) (outer ts p sound f);
  decomposed = λ ts p s m q sound fits is_s e. unordered ts p s m q sound fits is_s e;
}
