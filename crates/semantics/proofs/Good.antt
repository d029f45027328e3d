-- What every state of a careful checker has: a sound plan, methods that fit, and a draft whose entries fit so far.
use Rattle.std.proofs.Common.{◌≡◌, ℕ, zero, suc, ◌<◌, ◌≤◌, Bool, true, false, cond, ◌&&◌, ◌⊎◌, List, [], ◌∷◌, ◌++◌, map, length, Some, Option, sym, refl, ap, ◌∙◌, subst, subst₂, inl, inr, ⊎_elim, arith}
use mathlib.Core.Bool.{false≢true}
use Rattle.std.specs.List.{slice_get}
use Rattle.line.specs.declared.command.Command.TheVariants.{EndPhase}
use Rattle.semantics.specs.Drafts.{AddGoes, Draft, NeedGoes, OwnEnds, OwnOrder}
use Rattle.semantics.specs.Methods.{add_entry, blank, entered, Fits, link_of, Method, need_entry, order_of, step_of}
use Rattle.semantics.specs.Orders.{Holds, In, put}
use Rattle.semantics.specs.Phases.{phase_after}
use Rattle.semantics.specs.Plans.{at_task, both_primitive, Framed, Linked, Plan, Sound, steps_of, task_of, with_link}
use Rattle.semantics.specs.States.{opening_plan, State}
use Rattle.semantics.specs.Tasks.{is_primitive, Labelled, Task}
use Rattle.semantics.specs.declared.link.Link.{Link}
use Rattle.semantics.specs.declared.phase.Phase.{Phase}
use Rattle.semantics.specs.declared.phase.Phase.TheVariants.{Initial, MethodOpen, Methods, Refine, Running, Tasks}
use Rattle.semantics.proofs.Allowed.{PlanOpen}
use Rattle.semantics.proofs.Links.{linked_with}
use Rattle.semantics.proofs.Orders.{put_cases, put_new, put_old, put_strict}

pub draft_blank : (ts : List Task) (t : ℕ) (u : Task) → slice_get ts t ≡ Some u → u.primitive ≡ false → Draft ts (blank t)
draft_blank ts t u h c = record {
  task = u;
  is_task = h;
  compound = c;
  tasks_known = λ a k e. let w : ⊥ = grind arith in absurd w;
  plain_steps = λ a k e. let w : ⊥ = grind arith in absurd w;
  needs = λ j e k. let w : ⊥ = grind arith in absurd w;
  adds = λ j e k. let w : ⊥ = grind arith in absurd w;
  links = λ l i. absurd i;
  order = record {
    apart = λ l i. absurd i;
    ordered = λ l i. absurd i;
    strict = record { never_itself = λ a e. false≢true e; passes_on = λ a b d e f. absurd (false≢true e) };
    own_steps = λ a b e. absurd (false≢true e);
  };
}

-- a step more: what the others are stays
own_more : (ts : List Task) (ks : List ℕ) (t a : ℕ) (u : Task) → at_task ts (slice_get (map Some ks) a) ≡ Some u → at_task ts (slice_get (map Some (ks ++ (t ∷ []))) a) ≡ Some u
own_more ts [] t a u h = let w : ⊥ = grind arith in absurd w
own_more ts (k ∷ ks) t zero u h = h
own_more ts (k ∷ ks) t (suc a) u h = own_more ts ks t a u h

nth_last : (ks : List ℕ) (t a k : ℕ) → slice_get (ks ++ (t ∷ [])) a ≡ Some k → (slice_get ks a ≡ Some k) ⊎ (k ≡ t)
nth_last [] t zero k h = inr (cc)
nth_last [] t (suc a) k h = let w : ⊥ = grind arith in absurd w
nth_last (x ∷ ks) t zero k h = inl h
nth_last (x ∷ ks) t (suc a) k h = nth_last ks t a k h

length_more : (ks : List ℕ) (t : ℕ) → length (ks ++ (t ∷ [])) ≡ suc (length ks)
length_more [] t = refl
length_more (k ∷ ks) t = ap suc (length_more ks t)

-- a step more leaves both ends of a link as primitive as they were
both_more : (ts : List Task) (m : Method) (t : ℕ) (l : Link) → OwnEnds ts m l → both_primitive ts (map Some (m.steps ++ (t ∷ []))) l ≡ both_primitive ts (map Some m.steps) l
both_more ts m t l r =
    let u = own_more ts m.steps t l.producer r.1 r.3 in
    let v = own_more ts m.steps t l.consumer r.2 r.4 in
    (λ i. is_primitive ((u ∙ sym r.3) i) && is_primitive ((v ∙ sym r.4) i))

pub draft_step : (ts : List Task) (m : Method) (t : ℕ) (u : Task) → slice_get ts t ≡ Some u → 2 ≤ t → Draft ts m → Draft ts (step_of m t)
draft_step ts m t u h plain d = record {
  task = d.task;
  is_task = d.is_task;
  compound = d.compound;
  tasks_known = λ a k e. ⊎_elim (λ i. d.tasks_known a k i) (λ q. (u, ap (slice_get ts) q ∙ h)) (nth_last m.steps t a k e);
  plain_steps = λ a k e. ⊎_elim (λ i. d.plain_steps a k i) (λ q. omega arith) (nth_last m.steps t a k e);
  needs = λ j e k. let r = d.needs j e k in (r.0, r.1, own_more ts m.steps t e.0 r.1 r.2, r.3, r.4);
  adds = λ j e k. let r = d.adds j e k in (r.0, r.1, own_more ts m.steps t e.0 r.1 r.2, r.3, r.4);
  links = λ l i. let r = d.links l i in (r.0, r.1, r.2, own_more ts m.steps t l.producer r.1 r.3, own_more ts m.steps t l.consumer r.2 r.4, r.5, r.6);
  order = record {
    apart = d.order.apart;
    ordered = λ l i e. d.order.ordered l i (sym (both_more ts m t l (d.links l i)) ∙ e);
    strict = d.order.strict;
    own_steps = λ a b i. let r = d.order.own_steps a b i in let n = length_more m.steps t in (omega (arith, r.0), omega (arith, r.1));
  };
}

-- a pair between the method's own steps
own_put : (m : Method) (a b : ℕ) → a < length m.steps → b < length m.steps → ((x y : ℕ) → Holds m.before x y → (x < length m.steps) × (y < length m.steps))
    → (x y : ℕ) → Holds (put m.before a b) x y → (x < length m.steps) × (y < length m.steps)
own_put m a b ha hb own x y h = ⊎_elim (own x y)
    (λ t. (⊎_elim (λ e. omega arith) (λ k. (own x a k).0) t.0, ⊎_elim (λ e. omega arith) (λ k. (own b y k).1) t.1))
    (put_cases m.before a b x y h)

order_put : (ts : List Task) (m : Method) (a b : ℕ) → a < length m.steps → b < length m.steps → (a ≡ b → ⊥) → (Holds m.before b a → ⊥) → OwnOrder ts m → OwnOrder ts (order_of m a b)
order_put ts m a b ha hb apart back o = record {
  apart = o.apart;
  ordered = λ l i e. put_old m.before a b l.producer l.consumer (o.ordered l i e);
  strict = put_strict m.before a b o.strict apart back;
  own_steps = own_put m a b ha hb o.own_steps;
}

pub draft_order : (ts : List Task) (m : Method) (a b : ℕ) → a < length m.steps → b < length m.steps → (a ≡ b → ⊥) → (Holds m.before b a → ⊥) → Draft ts m → Draft ts (order_of m a b)
draft_order ts m a b ha hb apart back d = record {
  task = d.task;
  is_task = d.is_task;
  compound = d.compound;
  tasks_known = d.tasks_known;
  plain_steps = d.plain_steps;
  needs = d.needs;
  adds = d.adds;
  links = d.links;
  order = order_put ts m a b ha hb apart back d.order;
}

-- an end of a link is one of the method's steps
own_end : (ts : List Task) (ks : List ℕ) (a : ℕ) (u : Task) → at_task ts (slice_get (map Some ks) a) ≡ Some u → a < length ks
own_end ts [] a u h = let w : ⊥ = grind arith in absurd w
own_end ts (k ∷ ks) zero u h = omega arith
own_end ts (k ∷ ks) (suc a) u h = let i = own_end ts ks a u h in omega arith

-- the method with one link more, where the test says whether its ends are primitive
abbrev linked_if : Method → Link → Bool → Method
linked_if m l c = record {
  task = m.task;
  steps = m.steps;
  links = with_link m.links l;
  before = cond c (put m.before l.producer l.consumer) m.before;
  needs_go = m.needs_go;
  adds_go = m.adds_go;
}

module _ (ts : List Task) (m : Method) (l : Link) (ends : OwnEnds ts m l) (apart : l.producer ≡ l.consumer → ⊥) (o : OwnOrder ts m) where
  new_apart : (k : Link) → Linked k (with_link m.links l) → k.producer ≡ k.consumer → ⊥
  new_apart k i e = ⊎_elim (λ j. o.apart k j e) (λ q. apart (ap (λ (z : Link). z.producer) (sym q) ∙ (e ∙ ap (λ (z : Link). z.consumer) q))) (linked_with k l m.links i)

  order_linked : (c : Bool) → both_primitive ts (map Some m.steps) l ≡ c → (c ≡ true → Holds m.before l.consumer l.producer → ⊥) → OwnOrder ts (linked_if m l c)
  order_linked true e back =
      let a = own_end ts m.steps l.producer ends.1 ends.3 in
      let b = own_end ts m.steps l.consumer ends.2 ends.4 in
      let p = order_put ts m l.producer l.consumer a b apart (back refl) o in
      record {
        apart = new_apart;
        ordered = λ k i h. ⊎_elim (λ j. p.ordered k j h)
            (λ q. subst (λ (z : Link). Holds (put m.before l.producer l.consumer) z.producer z.consumer) (sym q)
            (put_new m.before l.producer l.consumer l.producer l.consumer (inl refl) (inl refl)))
            (linked_with k l m.links i);
        strict = p.strict;
        own_steps = p.own_steps;
      }
  order_linked false e back = record {
    apart = new_apart;
    ordered = λ k i h. ⊎_elim (λ j. o.ordered k j h)
        (λ q. absurd (false≢true (sym e ∙ (ap (both_primitive ts (map Some m.steps)) (sym q) ∙ h))))
        (linked_with k l m.links i);
    strict = o.strict;
    own_steps = o.own_steps;
  }

order_link : (ts : List Task) (m : Method) (l : Link) → OwnEnds ts m l → (l.producer ≡ l.consumer → ⊥)
    → (both_primitive ts (map Some m.steps) l ≡ true → Holds m.before l.consumer l.producer → ⊥) → OwnOrder ts m → OwnOrder ts (link_of ts m l)
order_link ts m l ends apart back o = order_linked ts m l ends apart o (both_primitive ts (map Some m.steps) l) refl back

pub draft_link : (ts : List Task) (m : Method) (l : Link) → OwnEnds ts m l → (l.producer ≡ l.consumer → ⊥)
    → (both_primitive ts (map Some m.steps) l ≡ true → Holds m.before l.consumer l.producer → ⊥) → Draft ts m → Draft ts (link_of ts m l)
draft_link ts m l ends apart back d = record {
  task = d.task;
  is_task = d.is_task;
  compound = d.compound;
  tasks_known = d.tasks_known;
  plain_steps = d.plain_steps;
  needs = d.needs;
  adds = d.adds;
  links = λ k i. ⊎_elim (d.links k) (λ e. subst (OwnEnds ts m) (sym e) ends) (linked_with k l m.links i);
  order = order_link ts m l ends apart back d.order;
}

entered_cases : (go : ℕ → Option (ℕ × ℕ)) (k x : ℕ) (e f : ℕ × ℕ) → entered go k e x ≡ Some f → ((x ≡ k) × (e ≡ f)) ⊎ (go x ≡ Some f)
entered_cases go k x e f h = grind arith

same_task : (ts : List Task) (n : ℕ) (t u : Task) → slice_get ts n ≡ Some t → slice_get ts n ≡ Some u → t ≡ u
same_task ts n t u h k = cc

pub draft_need : (ts : List Task) (m : Method) (t : Task) (j : ℕ) (e : ℕ × ℕ) → slice_get ts m.task ≡ Some t → NeedGoes ts m t j e → Draft ts m → Draft ts (need_entry m j e)
draft_need ts m t j e h g d =
    let g' : NeedGoes ts m d.task j e = subst (λ (u : Task). NeedGoes ts m u j e) (same_task ts m.task t d.task h d.is_task) g in
    record {
      task = d.task;
      is_task = d.is_task;
      compound = d.compound;
      tasks_known = d.tasks_known;
      plain_steps = d.plain_steps;
      needs = λ x f i. ⊎_elim (λ q. subst₂ (λ (y : ℕ) (z : ℕ × ℕ). NeedGoes ts m d.task y z) (sym q.0) q.1 g') (d.needs x f) (entered_cases m.needs_go j x e f i);
      adds = d.adds;
      links = d.links;
      order = record { apart = d.order.apart; ordered = d.order.ordered; strict = d.order.strict; own_steps = d.order.own_steps };
    }

pub draft_add : (ts : List Task) (m : Method) (t : Task) (j : ℕ) (e : ℕ × ℕ) → slice_get ts m.task ≡ Some t → AddGoes ts m t j e → Draft ts m → Draft ts (add_entry m j e)
draft_add ts m t j e h g d =
    let g' : AddGoes ts m d.task j e = subst (λ (u : Task). AddGoes ts m u j e) (same_task ts m.task t d.task h d.is_task) g in
    record {
      task = d.task;
      is_task = d.is_task;
      compound = d.compound;
      tasks_known = d.tasks_known;
      plain_steps = d.plain_steps;
      needs = d.needs;
      adds = λ x f i. ⊎_elim (λ q. subst₂ (λ (y : ℕ) (z : ℕ × ℕ). AddGoes ts m d.task y z) (sym q.0) q.1 g') (d.adds x f) (entered_cases m.adds_go j x e f i);
      links = d.links;
      order = record { apart = d.order.apart; ordered = d.order.ordered; strict = d.order.strict; own_steps = d.order.own_steps };
    }

same_label : (fs : List ℕ) (j f g : ℕ) → Labelled fs j f → Labelled fs j g → f ≡ g
same_label fs j f g h k = cc

-- A method whose every need and add has an entry fits.
pub draft_whole : (ts : List Task) (m : Method) (t : Task) → slice_get ts m.task ≡ Some t
    → ((j f : ℕ) → Labelled t.needs j f → (e : ℕ × ℕ) × (m.needs_go j ≡ Some e))
    → ((i f : ℕ) → Labelled t.adds i f → (e : ℕ × ℕ) × (m.adds_go i ≡ Some e))
    → Draft ts m → Fits ts m
draft_whole ts m t h all_needs all_adds d =
    let q : d.task ≡ t = same_task ts m.task d.task t d.is_task h in
    record {
      task = d.task;
      is_task = d.is_task;
      compound = d.compound;
      tasks_known = d.tasks_known;
      plain_steps = d.plain_steps;
      needs = λ j f i.
          let e = all_needs j f (subst (λ (u : Task). Labelled u.needs j f) q i) in
          let r = d.needs j e.0 e.1 in
          (e.0.0, e.0.1, r.1, e.1, r.2, subst (λ (z : ℕ). Labelled r.1.needs e.0.1 z) (same_label d.task.needs j r.0 f r.4 i) r.3);
      adds = λ j f i.
          let e = all_adds j f (subst (λ (u : Task). Labelled u.adds j f) q i) in
          let r = d.adds j e.0 e.1 in
          (e.0.0, e.0.1, r.1, e.1, r.2, subst (λ (z : ℕ). Labelled r.1.adds e.0.1 z) (same_label d.task.adds j r.0 f r.4 i) r.3);
      links = d.links;
      apart = d.order.apart;
      ordered = d.order.ordered;
      strict = d.order.strict;
      own_steps = d.order.own_steps;
    }

-- init and goal are primitive
abbrev pub Ends : List Task → Type 0
Ends ts = (is_primitive (slice_get ts 0) ≡ true) × (is_primitive (slice_get ts 1) ≡ true)

two : (ts : List Task) → Ends ts → 2 ≤ length ts
two [] e = absurd (false≢true e.0)
two (t ∷ []) e = absurd (false≢true e.1)
two (t ∷ (u ∷ ts)) e = omega arith

opening_known : (ts : List Task) → 2 ≤ length ts → (s : ℕ) → In s (steps_of opening_plan) → (t : Task) × (task_of ts opening_plan s ≡ Some t)
opening_known [] h s i = let w : ⊥ = omega arith in absurd w
opening_known (t ∷ []) h s i = let w : ⊥ = omega arith in absurd w
opening_known (t ∷ (u ∷ ts)) h s (inl e) = (t, ap (task_of (t ∷ (u ∷ ts)) opening_plan) e)
opening_known (t ∷ (u ∷ ts)) h s (inr (inl e)) = (u, ap (task_of (t ∷ (u ∷ ts)) opening_plan) e)
opening_known (t ∷ (u ∷ ts)) h s (inr (inr i)) = absurd i

-- the plan as it opens is sound, whatever the tasks, init and goal among them
pub opening_sound : (ts : List Task) → Ends ts → Sound ts opening_plan
opening_sound ts h = record {
  links_fit = λ l i. absurd i;
  never_itself = λ a k. grind arith;
  passes_on = λ a b c k m. grind arith;
  tasks_known = opening_known ts (two ts h);
  own_steps = λ a b k. grind arith;
}

pub opening_framed : Framed opening_plan
opening_framed = record { init = refl; goal = refl; ends = refl; between = λ x i a b. absurd (⊎_elim a (⊎_elim b (λ j. j)) i) }

-- the plan is not yet told
abbrev pub early : Phase → Bool
early Tasks = true
early Methods = true
early MethodOpen = true
early Initial = false
early Refine = false
early Running = false

pub record Good (ph : Phase) (ts : List Task) (ms : List Method) (d : Method) (p : Plan) : Type 0 where
  pub sound : Sound ts p
  pub ends : Ends ts
  pub unopened : early ph ≡ true → p ≡ opening_plan
  pub framed : Framed p
  pub none_yet : ph ≡ Tasks → ms ≡ []
  pub fit : (k : ℕ) (m : Method) → slice_get ms k ≡ Some m → Fits ts m
  pub drafting : ph ≡ MethodOpen → Draft ts d

abbrev pub GoodState : State → Type 0
GoodState st = Good st.phase st.tasks st.methods st.draft st.plan

-- other tasks
pub good_tasks : (ts us : List Task) (ms : List Method) (d : Method) (p : Plan) → Ends us → Good Tasks ts ms d p → Good Tasks us ms d p
good_tasks ts us ms d p h g = record {
  sound = subst (Sound us) (sym (g.unopened refl)) (opening_sound us h);
  ends = h;
  unopened = g.unopened;
  framed = g.framed;
  none_yet = g.none_yet;
  fit = λ k m e. let z = g.none_yet refl in let w : ⊥ = grind arith in absurd w;
  drafting = λ e. let w : ⊥ = grind arith in absurd w;
}

-- another draft
pub good_draft : (ph : Phase) (ts : List Task) (ms : List Method) (d n : Method) (p : Plan) → (ph ≡ Methods) ⊎ (ph ≡ MethodOpen) → Draft ts n → Good ph ts ms d p → Good MethodOpen ts ms n p
good_draft ph ts ms d n p which dn g = record {
  sound = g.sound;
  ends = g.ends;
  unopened = λ e. g.unopened (grind arith);
  framed = g.framed;
  none_yet = λ e. let w : ⊥ = grind arith in absurd w;
  fit = g.fit;
  drafting = λ e. dn;
}

-- another plan
pub good_plan : (ph : Phase) (ts : List Task) (ms : List Method) (d : Method) (p q : Plan) → PlanOpen ph → Sound ts q
    → Framed q → Good ph ts ms d p → Good ph ts ms d q
good_plan ph ts ms d p q which s fr g = record {
  sound = s;
  ends = g.ends;
  unopened = λ e. let w : ⊥ = grind arith in absurd w;
  framed = fr;
  none_yet = λ e. let w : ⊥ = grind arith in absurd w;
  fit = g.fit;
  drafting = λ e. let w : ⊥ = grind arith in absurd w;
}

-- another phase
pub good_end : (ph : Phase) (ts : List Task) (ms : List Method) (d : Method) (p : Plan) → (ph ≡ Tasks) ⊎ ((ph ≡ Methods) ⊎ (ph ≡ Initial)) → Good ph ts ms d p → Good (phase_after EndPhase ph) ts ms d p
good_end ph ts ms d p which g = record {
  sound = g.sound;
  ends = g.ends;
  unopened = λ e. g.unopened (grind arith);
  framed = g.framed;
  none_yet = λ e. let w : ⊥ = grind arith in absurd w;
  fit = g.fit;
  drafting = λ e. let w : ⊥ = grind arith in absurd w;
}

nth_last_method : (ms : List Method) (n m : Method) (k : ℕ) → slice_get (ms ++ (n ∷ [])) k ≡ Some m → (slice_get ms k ≡ Some m) ⊎ (n ≡ m)
nth_last_method [] n m zero h = inr (cc)
nth_last_method [] n m (suc k) h = let w : ⊥ = grind arith in absurd w
nth_last_method (x ∷ ms) n m zero h = inl h
nth_last_method (x ∷ ms) n m (suc k) h = nth_last_method ms n m k h

pub good_close : (ts : List Task) (ms : List Method) (d : Method) (p : Plan) → Fits ts d → Good MethodOpen ts ms d p → Good Methods ts (ms ++ (d ∷ [])) d p
good_close ts ms d p f g = record {
  sound = g.sound;
  ends = g.ends;
  unopened = λ e. g.unopened refl;
  framed = g.framed;
  none_yet = λ e. let w : ⊥ = grind arith in absurd w;
  fit = λ k m e. ⊎_elim (g.fit k m) (λ q. subst (Fits ts) q f) (nth_last_method ms d m k e);
  drafting = λ e. let w : ⊥ = grind arith in absurd w;
}

pub good_judge : (ts : List Task) (ms : List Method) (d : Method) (p : Plan) → Good Refine ts ms d p → Good Running ts ms d p
good_judge ts ms d p g = record {
  sound = g.sound;
  ends = g.ends;
  unopened = λ e. let w : ⊥ = grind arith in absurd w;
  framed = g.framed;
  none_yet = λ e. let w : ⊥ = grind arith in absurd w;
  fit = g.fit;
  drafting = λ e. let w : ⊥ = grind arith in absurd w;
}
