-- The lines of a plan: each keeps it sound, and its order as the book's.
use Rattle.std.proofs.Common.{◌≡◌, ℕ, zero, suc, ◌+◌, ◌<◌, Bool, true, false, cond, ◌&&◌, ◌⊎◌, ◌↔◌, List, [], ◌∷◌, ◌++◌, length, Some, None, Option, sym, refl, ap, ◌∙◌, subst, inl, inr, ⊎_elim, arith}
use Rattle.std.proofs.lemmas.Bool.{and_parts}
use Rattle.std.specs.List.{slice_get}
use Rattle.line.specs.declared.command.Command.{Command}
use Rattle.semantics.specs.Book.{Book, enter}
use Rattle.semantics.specs.Closures.{And, Chained, pair, Pairs}
use Rattle.semantics.specs.Decomposing.{LinkPair, Primitive}
use Rattle.semantics.specs.Orders.{Holds, In, put, Relation, Strict}
use Rattle.semantics.specs.Plans.{at_task, Plan, present_from, primitive_at, Protects, Sound, steps_of, task_of}
use Rattle.semantics.specs.States.{next, plan_link, plan_order, plan_step, State}
use Rattle.semantics.specs.Tasks.{is_primitive, Task}
use Rattle.semantics.specs.declared.link.Link.{Link}
use Rattle.semantics.proofs.Allowed.{Room}
use Rattle.semantics.proofs.Closures.{chained_into, chained_put, chained_same}
use Rattle.semantics.proofs.Decomposing.{primitive_there}
use Rattle.semantics.proofs.Links.{linked_with}
use Rattle.semantics.proofs.Orders.{put_cases, put_new, put_old, put_strict}
use Rattle.semantics.proofs.Plans.{step_in}

-- The domain and the open method go the same way in the checker and in the book.
pub tasks_alike : (l : Command) (st : State) (b : Book) → st.phase ≡ b.phase → st.tasks ≡ b.tasks → (next st l).tasks ≡ (enter l b).tasks
tasks_alike l st b ph ts = grind arith

pub methods_alike : (l : Command) (st : State) (b : Book) → st.phase ≡ b.phase → st.draft ≡ b.draft → st.methods ≡ b.methods → (next st l).methods ≡ (enter l b).methods
methods_alike l st b ph d ms = grind arith

pub draft_alike : (l : Command) (st : State) (b : Book) → st.phase ≡ b.phase → st.tasks ≡ b.tasks → st.draft ≡ b.draft → (next st l).draft ≡ (enter l b).draft
draft_alike l st b ph ts d = grind arith

-- a transitive relation is its own closure
pub closed : (R : Relation) (B : Pairs) → ((x y z : ℕ) → Holds R x y → Holds R y z → Holds R x z) → ((x y : ℕ) → Holds R x y ↔ B x y) → (x y : ℕ) → Holds R x y ↔ Chained B x y
closed R B tr same x y = (λ h. pair ((same x y).0 h), λ h. chained_into B (Holds R) (λ u v k. (same u v).1 k) tr h)

module _ (ts : List Task) (p : Plan) (sound : Sound ts p) (B : Pairs) (same : (x y : ℕ) → Holds p.before x y ↔ B x y) where
  strict : Strict p.before
  strict = record { never_itself = sound.never_itself; passes_on = sound.passes_on }

  own : (x y : ℕ) → Chained B x y → In x (steps_of p) × In y (steps_of p)
  own x y h = let k = (closed p.before B sound.passes_on same x y).1 h in sound.own_steps x y k

  pub order_alike : (a b : ℕ) → (x y : ℕ) → Holds (plan_order p a b).before x y ↔ Chained (And B a b) x y
  order_alike a b = chained_put B p.before a b (closed p.before B sound.passes_on same)

  pub order_sound : (a b : ℕ) → In a (steps_of p) → In b (steps_of p) → (a ≡ b → ⊥) → (Holds p.before b a → ⊥) → Sound ts (plan_order p a b)
  order_sound a b ia ib apart back =
      let s = put_strict p.before a b strict apart back in
      record {
        links_fit = λ l i. let r = sound.links_fit l i in (
          r.0,
          record {
            giver = r.1.giver;
            taker = r.1.taker;
            gives = r.1.gives;
            takes = r.1.takes;
            added = r.1.added;
            needed = r.1.needed;
            ordered = λ g t. put_old p.before a b l.producer l.consumer (r.1.ordered g t);
          },
        );
        never_itself = s.never_itself;
        passes_on = s.passes_on;
        tasks_known = sound.tasks_known;
        own_steps = λ x y h. ⊎_elim (sound.own_steps x y)
            (λ t. (
              ⊎_elim (λ e. subst (λ (z : ℕ). In z (steps_of p)) (sym e) ia) (λ k. (sound.own_steps x a k).0) t.0,
              ⊎_elim (λ e. subst (λ (z : ℕ). In z (steps_of p)) e ib) (λ k. (sound.own_steps b y k).1) t.1,
            ))
            (put_cases p.before a b x y h);
      }

  pub link_alike : (l : Link) (x y : ℕ) → Holds (plan_link ts p l).before x y ↔ Chained (λ u v. B u v ⊎ LinkPair ts p.steps l u v) x y
  link_alike l x y = at (primitive_at ts p.steps l.producer) (primitive_at ts p.steps l.consumer) refl refl
    where
      Q : Pairs
      Q u v = B u v ⊎ LinkPair ts p.steps l u v

      none : (primitive_at ts p.steps l.producer && primitive_at ts p.steps l.consumer) ≡ false → (u v : ℕ) → Q u v → B u v
      none e u v (inl k) = k
      none e u v (inr k) =
          let a = (primitive_there ts p.steps l.producer).1 (subst (Primitive ts p.steps) k.0 k.2) in
          let b = (primitive_there ts p.steps l.consumer).1 (subst (Primitive ts p.steps) k.1 k.3) in
          let w : ⊥ = grind arith in absurd w

      plain : (primitive_at ts p.steps l.producer && primitive_at ts p.steps l.consumer) ≡ false → Holds p.before x y ↔ Chained Q x y
      plain e = let c = closed p.before B sound.passes_on same x y in (λ h. chained_same B Q (λ u v k. inl k) (c.0 h), λ h. c.1 (chained_same Q B (none e) h))

      at : (b c : Bool) → primitive_at ts p.steps l.producer ≡ b → primitive_at ts p.steps l.consumer ≡ c
          → Holds (cond (b && c) (put p.before l.producer l.consumer) p.before) x y ↔ Chained Q x y
      at true true e f =
          let c = order_alike l.producer l.consumer x y in (
            λ h. chained_same (And B l.producer l.consumer) Q (λ u v k. ⊎_elim (λ m. inl m) (λ m. inr (m.0, m.1, subst (Primitive ts p.steps) (sym m.0) ((primitive_there ts p.steps l.producer).0 e), subst (Primitive ts p.steps) (sym m.1) ((primitive_there ts p.steps l.consumer).0 f))) k) (c.0 h),
            λ h. c.1 (chained_same Q (And B l.producer l.consumer) (λ u v k. ⊎_elim (λ m. inl m) (λ m. inr (m.0, m.1)) k) h),
          )
      at true false e f = plain (grind arith)
      at false true e f = plain (grind arith)
      at false false e f = plain (grind arith)

  pub step_alike : (t : ℕ) (x y : ℕ) → Holds (plan_step p t).before x y ↔ Chained (And (And B 0 (length p.steps)) (length p.steps) 1) x y
  step_alike t = chained_put (And B 0 (length p.steps)) (put p.before 0 (length p.steps)) (length p.steps) 1 (order_alike 0 (length p.steps))

  pub link_keeps : (l : Link) (x y : ℕ) → Holds p.before x y → Holds (plan_link ts p l).before x y
  link_keeps l x y h = let k = put_old p.before l.producer l.consumer x y h in grind arith

  primitive_is : (x : ℕ) (t : Task) → task_of ts p x ≡ Some t → primitive_at ts p.steps x ≡ true → t.primitive ≡ true
  primitive_is x t h e = ap is_primitive (sym h) ∙ e

  either : (l : Link) (c : Bool) → (c ≡ true → Sound ts (plan_order p l.producer l.consumer))
      → Strict (cond c (put p.before l.producer l.consumer) p.before)
      × ((x y : ℕ) → Holds (cond c (put p.before l.producer l.consumer) p.before) x y → In x (steps_of p) × In y (steps_of p))
  either l true o = let s = o refl in (record { never_itself = s.never_itself; passes_on = s.passes_on }, s.own_steps)
  either l false o = (strict, sound.own_steps)

  pub link_sound : (l : Link) → Room ts p l → Sound ts (plan_link ts p l)
  link_sound l room =
      let q = plan_link ts p l in
      let ia = step_in ts p l.producer room.giver room.gives in
      let ib = step_in ts p l.consumer room.taker room.takes in
      let c : Bool = primitive_at ts p.steps l.producer && primitive_at ts p.steps l.consumer in
      let o : c ≡ true → Sound ts (plan_order p l.producer l.consumer) = λ e.
      let b = and_parts (primitive_at ts p.steps l.producer) (primitive_at ts p.steps l.consumer) e in
      order_sound l.producer l.consumer ia ib room.apart (room.not_back (primitive_is l.producer room.giver room.gives b.0) (primitive_is l.consumer room.taker room.takes b.1)) in
      let s = either l c o in
      record {
        links_fit = λ k i. ⊎_elim
            (λ j. let r = sound.links_fit k j in (
              r.0,
              record {
                giver = r.1.giver;
                taker = r.1.taker;
                gives = r.1.gives;
                takes = r.1.takes;
                added = r.1.added;
                needed = r.1.needed;
                ordered = λ g t. link_keeps l k.producer k.consumer (r.1.ordered g t);
              },
            ))
            (λ e. subst (λ (z : Link). (f : ℕ) × Protects ts (plan_link ts p l) z f) (sym e) (
              room.f,
              record {
                giver = room.giver;
                taker = room.taker;
                gives = room.gives;
                takes = room.takes;
                added = room.added;
                needed = room.needed;
                ordered = λ g t.
                    let a = (primitive_there ts p.steps l.producer).1 (room.giver, room.gives, g) in
                    let b = (primitive_there ts p.steps l.consumer).1 (room.taker, room.takes, t) in
                    let n = put_new p.before l.producer l.consumer l.producer l.consumer (inl refl) (inl refl) in
                    rw (a, b) n;
              },
            ))
            (linked_with k l p.links i);
        never_itself = s.0.never_itself;
        passes_on = s.0.passes_on;
        tasks_known = sound.tasks_known;
        own_steps = s.1;
      }

-- one step more at the end of the steps
more_steps : (ts : List Task) (os : List (Option ℕ)) (t x : ℕ) (u : Task) → at_task ts (slice_get os x) ≡ Some u → at_task ts (slice_get (os ++ (Some t ∷ [])) x) ≡ Some u
more_steps ts [] t x u h = let w : ⊥ = grind arith in absurd w
more_steps ts (o ∷ os) t zero u h = h
more_steps ts (o ∷ os) t (suc x) u h = more_steps ts os t x u h

last_step : (os : List (Option ℕ)) (t : ℕ) → slice_get (os ++ (Some t ∷ [])) (length os) ≡ Some (Some t)
last_step [] t = refl
last_step (o ∷ os) t = last_step os t

pub in_more : (os : List (Option ℕ)) (t k x : ℕ) → In x (present_from k (os ++ (Some t ∷ []))) → In x (present_from k os) ⊎ (x ≡ k + length os)
in_more [] t k x (inl e) = inr (omega arith)
in_more [] t k x (inr i) = absurd i
in_more (None ∷ os) t k x i = ⊎_elim inl (λ e. inr (omega arith)) (in_more os t (suc k) x i)
in_more (Some n ∷ os) t k x (inl e) = inl (inl e)
in_more (Some n ∷ os) t k x (inr i) = ⊎_elim (λ j. inl (inr j)) (λ e. inr (omega arith)) (in_more os t (suc k) x i)

pub more_in : (os : List (Option ℕ)) (t k x : ℕ) → In x (present_from k os) → In x (present_from k (os ++ (Some t ∷ [])))
more_in [] t k x i = absurd i
more_in (None ∷ os) t k x i = more_in os t (suc k) x i
more_in (Some n ∷ os) t k x (inl e) = inl e
more_in (Some n ∷ os) t k x (inr i) = inr (more_in os t (suc k) x i)

last_in : (os : List (Option ℕ)) (t k : ℕ) → In (k + length os) (present_from k (os ++ (Some t ∷ [])))
last_in [] t k = inl (omega arith)
last_in (None ∷ os) t k = let h = last_in os t (suc k) in grind arith
last_in (Some n ∷ os) t k = let h = last_in os t (suc k) in inr (grind arith)

pub numbers_below : (os : List (Option ℕ)) (k x : ℕ) → In x (present_from k os) → x < k + length os
numbers_below [] k x i = absurd i
numbers_below (None ∷ os) k x i = let h = numbers_below os (suc k) x i in omega arith
numbers_below (Some n ∷ os) k x (inl e) = omega arith
numbers_below (Some n ∷ os) k x (inr i) = let h = numbers_below os (suc k) x i in omega arith

-- the plan with one step more, not yet ordered
wider : Plan → ℕ → Plan
wider p t = record { steps = p.steps ++ (Some t ∷ []); links = p.links; before = p.before }

wider_sound : (ts : List Task) (p : Plan) (t : ℕ) (u : Task) → slice_get ts t ≡ Some u → Sound ts p → Sound ts (wider p t)
unfolding wider
wider_sound ts p t u known sound = record {
  links_fit = λ l i. let r = sound.links_fit l i in (
    r.0,
    record {
      giver = r.1.giver;
      taker = r.1.taker;
      gives = more_steps ts p.steps t l.producer r.1.giver r.1.gives;
      takes = more_steps ts p.steps t l.consumer r.1.taker r.1.takes;
      added = r.1.added;
      needed = r.1.needed;
      ordered = r.1.ordered;
    },
  );
  never_itself = sound.never_itself;
  passes_on = sound.passes_on;
  tasks_known = λ s i. ⊎_elim
      (λ j. let r = sound.tasks_known s j in (r.0, more_steps ts p.steps t s r.0 r.1))
      (λ e. let e' : s ≡ length p.steps = omega arith in (u, ap (λ (z : ℕ). at_task ts (slice_get (p.steps ++ (Some t ∷ [])) z)) e' ∙ (ap (at_task ts) (last_step p.steps t) ∙ known)))
      (in_more p.steps t 0 s i);
  own_steps = λ a b h. let o = sound.own_steps a b h in (more_in p.steps t 0 a o.0, more_in p.steps t 0 b o.1);
}

-- A new step after step 0 and before step 1 keeps a plan sound in which these two stand so.
pub step_sound : (ts : List Task) (p : Plan) (t : ℕ) (u : Task) → slice_get ts t ≡ Some u → Sound ts p
    → In 0 (steps_of p) → In 1 (steps_of p) → Holds p.before 0 1 → Sound ts (plan_step p t)
unfolding wider
step_sound ts p t u known sound i₀ i₁ h =
    let n : ℕ = length p.steps in
    let w = wider_sound ts p t u known sound in
    let b₀ = numbers_below p.steps 0 0 i₀ in
    let b₁ = numbers_below p.steps 0 1 i₁ in
    let new : In n (present_from 0 (p.steps ++ (Some t ∷ []))) = subst (λ (z : ℕ). In z (present_from 0 (p.steps ++ (Some t ∷ [])))) (omega arith) (last_in p.steps t 0) in
    let away : (x : ℕ) → In x (steps_of p) → x ≡ n → ⊥ = λ x i e. let b = numbers_below p.steps 0 x i in omega arith in
    let q = wider p t in
    let first = order_sound ts q w (Holds p.before) (λ x y. (λ k. k, λ k. k)) 0 n (more_in p.steps t 0 0 i₀) new (away 0 i₀) (λ k. away n (sound.own_steps n 0 k).0 refl) in
    order_sound ts (plan_order q 0 n) first (Holds (put p.before 0 n)) (λ x y. (λ k. k, λ k. k)) n 1 new (more_in p.steps t 0 1 i₁) (λ e. away 1 i₁ (sym e))
    (λ k. ⊎_elim (λ m. away n (sound.own_steps 1 n m).1 refl)
    (λ m. ⊎_elim (λ e. let z : ⊥ = omega arith in z) (λ r. sound.never_itself 0 (sound.passes_on 0 1 0 h r)) m.0)
    (put_cases p.before 0 n 1 n k))
