-- What a refusal by J or R names is the lowest.
use Rattle.std.proofs.Common.{◌≡◌, ℕ, zero, suc, ◌<◌, ◌≤◌, Bool, true, false, cond, not, ◌&&◌, eqb, ◌⊎◌, List, [], ◌∷◌, length, Some, None, Option, sym, refl, ap, ◌∙◌, subst, subst₂, inl, inr, ⊎_elim, arith, is_some}
use Rattle.std.proofs.lemmas.Bool.{and_parts, both_ways, cases_order, eq-eqb, not-false, not-true}
use Rattle.line.specs.declared.command.Command.TheVariants.{Judge, Take}
use Rattle.page.specs.declared.answer.Row.{Row}
use Rattle.semantics.specs.Causes.{also, first_found, first_of, first_such, nameless, returned, when}
use Rattle.semantics.specs.Decomposing.{upfrom}
use Rattle.semantics.specs.Facts.{among}
use Rattle.semantics.specs.Laws.{LowestNamed}
use Rattle.semantics.specs.OpenLines.{is_step}
use Rattle.semantics.specs.Orders.{Holds, In}
use Rattle.semantics.specs.PlanLines.{at_label, compound_step, lower, lower_of, lowest_link, lowest_with, need_unlinked, producer, threat, threatens, unlinked_at, untaken_before}
use Rattle.semantics.specs.Plans.{Linked, present_from, Protects, steps_of, Supplied, task_of, Threat}
use Rattle.semantics.specs.Rules.{outside, verdict}
use Rattle.semantics.specs.States.{State}
use Rattle.semantics.specs.Tasks.{is_primitive, Labelled, needs_of, Task}
use Rattle.semantics.specs.declared.link.Link.{Link}
use Rattle.semantics.specs.declared.phase.Phase.TheVariants.{Refine, Running}
use Rattle.semantics.proofs.Careful.{ends_some, sixteen, threat_tested}
use Rattle.semantics.proofs.Decomposing.{upfrom_in}
use Rattle.semantics.proofs.Inherited.{nth_below}
use Rattle.semantics.proofs.Plans.{among_in, in_among, numbers_from, step_in}
use Rattle.semantics.proofs.Searches.{found_some, lowest_none, producer_linked, such_none}

-- each number is above those before it
abbrev pub Ascending : List ℕ → Type 0
Ascending [] = Unit {0}
Ascending (x ∷ xs) = ((y : ℕ) → In y xs → x < y) × Ascending xs

numbers_ascend : (os : List (Option ℕ)) (k : ℕ) → Ascending (present_from k os)
numbers_ascend [] k = tt
numbers_ascend (None ∷ os) k = numbers_ascend os (suc k)
numbers_ascend (Some t ∷ os) k = (λ y i. let h = numbers_from os (suc k) y i in omega arith, numbers_ascend os (suc k))

upfrom_ascend : (n k : ℕ) → Ascending (upfrom n k)
upfrom_ascend n zero = tt
upfrom_ascend n (suc k) = (λ y i. let h = (upfrom_in (suc n) k y).0 i in omega (arith, h.0), upfrom_ascend (suc n) k)

such_lowest : (test : ℕ → Bool) (xs : List ℕ) (x : ℕ) → Ascending xs → first_such test xs ≡ Some x → (test x ≡ true) × ((y : ℕ) → In y xs → y < x → test y ≡ false)
such_lowest test [] x a h = let w : ⊥ = grind arith in absurd w
such_lowest test (z ∷ zs) x a h = at (such_lowest test zs x a.1) (test z) refl h
  where
    at : (first_such test zs ≡ Some x → (test x ≡ true) × ((y : ℕ) → In y zs → y < x → test y ≡ false)) → (b : Bool) → test z ≡ b → cond b (Some z) (first_such test zs) ≡ Some x
        → (test x ≡ true) × ((y : ℕ) → In y (z ∷ zs) → y < x → test y ≡ false)
    at ih true e k = let q : z ≡ x = cc in (ap test (sym q) ∙ e, λ y i l. ⊎_elim (λ r. let w : ⊥ = omega arith in absurd w) (λ j. let b = a.0 y j in let w : ⊥ = omega arith in absurd w) i)
    at ih false e k = let r = ih k in (r.0, λ y i l. ⊎_elim (λ q. ap test q ∙ e) (λ j. r.1 y j l) i)

found_lowest : {X : Type 0} (find : ℕ → Option X) (xs : List ℕ) (v : ℕ × X) → Ascending xs → first_found find xs ≡ Some v → (y : ℕ) → In y xs → y < v.0 → find y ≡ None
found_lowest find [] v a h = let w : ⊥ = grind arith in absurd w
found_lowest {X} find (z ∷ zs) v a h = at (found_lowest find zs v a.1) (find z) refl h
  where
    at : (first_found find zs ≡ Some v → (y : ℕ) → In y zs → y < v.0 → find y ≡ None) → (o : Option X) → find z ≡ o → also z o (first_found find zs) ≡ Some v
        → (y : ℕ) → In y (z ∷ zs) → y < v.0 → find y ≡ None
    at ih (Some u) e k y i l =
        let q : (z, u) ≡ v = cc in
        let q₀ : z ≡ v.0 = ap (λ (t : ℕ × X). t.0) q in
        ⊎_elim (λ r. let w : ⊥ = omega arith in absurd w) (λ j. let b = a.0 y j in let w : ⊥ = omega arith in absurd w) i
    at ih None e k y i l = ⊎_elim (λ q. ap find q ∙ e) (λ j. ih k y j l) i

linked_producer : (ls : List Link) (s j : ℕ) (l : Link) → Linked l ls → l.consumer ≡ s → l.need ≡ j → is_some (producer ls s j) ≡ true
linked_producer [] s j l i c n = absurd i
linked_producer (k ∷ ks) s j l i c n = let ih = linked_producer ks s j l in at ih (eqb k.consumer s && eqb k.need j) refl (producer ks s j) refl
  where
    some_lower : (x : ℕ) (o : Option ℕ) → is_some (lower_of x o) ≡ true
    some_lower x None = refl
    some_lower x (Some y) = refl

    at : (Linked l ks → l.consumer ≡ s → l.need ≡ j → is_some (producer ks s j) ≡ true) → (b : Bool) → (eqb k.consumer s && eqb k.need j) ≡ b → (o : Option ℕ) → producer ks s j ≡ o
        → is_some (cond b (lower_of k.producer o) o) ≡ true
    at ih true e o q = some_lower k.producer o
    at ih false e o q = ⊎_elim
        (λ r. let c' : k.consumer ≡ s = ap (λ (m : Link). m.consumer) (sym r) ∙ c in
        let n' : k.need ≡ j = ap (λ (m : Link). m.need) (sym r) ∙ n in
        let x = eq-eqb k.consumer s c' in let y = eq-eqb k.need j n' in let w : ⊥ = grind arith in absurd w)
        (λ m. ap is_some (sym q) ∙ ih m c n) i

lower_passes : (j m k : Link) → lower j m ≡ false → lower m k ≡ false → lower j k ≡ false
lower_passes j m k h i = grind arith

not_lower_itself : (k : Link) → lower k k ≡ false
not_lower_itself k = grind arith

lowest_lowest : (test : Link → Bool) (ls : List Link) (l : Link) → lowest_link test ls ≡ Some l → (k : Link) → Linked k ls → test k ≡ true → lower k l ≡ false
lowest_lowest test [] l h k i t = absurd i
lowest_lowest test (m ∷ ms) l h k i t = at (λ x e. lowest_lowest test ms x e k) (test m) (lowest_link test ms) refl refl h
  where
    at : ((x : Link) → lowest_link test ms ≡ Some x → Linked k ms → test k ≡ true → lower k x ≡ false) → (b : Bool) (o : Option Link) → test m ≡ b → lowest_link test ms ≡ o → lowest_with b m o ≡ Some l → lower k l ≡ false
    at ih false o e q z = ⊎_elim (λ r. let w : ⊥ = grind arith in absurd w) (λ j. ih l (q ∙ z) j t) i
    at ih true None e q z =
        let r : m ≡ l = cc in
        ⊎_elim (λ s. subst (λ (y : Link). lower k y ≡ false) (s ∙ r) (not_lower_itself k)) (λ j. let none = lowest_none test ms q k j in let w : ⊥ = grind arith in absurd w) i
    at ih true (Some x) e q z = pick (lower x m) refl z
      where
        pick : (c : Bool) → lower x m ≡ c → ◌≡◌ {A = Option Link} (Some (cond c x m)) (Some l) → lower k l ≡ false
        pick true g y = let r : x ≡ l = cc in subst (λ (u : Link). lower k u ≡ false) r (⊎_elim (λ s. subst (λ (u : Link). lower u x ≡ false) (sym s) (grind arith)) (λ j. ih x q j t) i)
        pick false g y = let r : m ≡ l = cc in subst (λ (u : Link). lower k u ≡ false) r (⊎_elim (λ s. subst (λ (u : Link). lower k u ≡ false) s (not_lower_itself k)) (λ j. lower_passes k x m (ih x q j t) g) i)

thirteen : (o₅ o₆ o₈ o₁₃ : Option (ℕ × ℕ × ℕ)) (n : ℕ) → (first_of ((5, o₅) ∷ (6, o₆) ∷ (8, o₈) ∷ (13, o₁₃) ∷ []) n).code ≡ 13
    → (v : ℕ × ℕ × ℕ) × (o₁₃ ≡ Some v) × (first_of ((5, o₅) ∷ (6, o₆) ∷ (8, o₈) ∷ (13, o₁₃) ∷ []) n ≡ record { code = 13; a = v.0; b = v.1; c = v.2 })
thirteen (Some v) o₆ o₈ o₁₃ n h = let w : ⊥ = omega arith in absurd w
thirteen None (Some v) o₈ o₁₃ n h = let w : ⊥ = omega arith in absurd w
thirteen None None (Some v) o₁₃ n h = let w : ⊥ = omega arith in absurd w
thirteen None None None None n h = let w : ⊥ = omega arith in absurd w
thirteen None None None (Some v) n h = (v, refl, refl)

fourteen : (o₅ o₁₄ o₁₅ o₁₆ : Option (ℕ × ℕ × ℕ)) (n : ℕ) → (first_of ((5, o₅) ∷ (14, o₁₄) ∷ (15, o₁₅) ∷ (16, o₁₆) ∷ []) n).code ≡ 14
    → (v : ℕ × ℕ × ℕ) × (o₁₄ ≡ Some v) × (first_of ((5, o₅) ∷ (14, o₁₄) ∷ (15, o₁₅) ∷ (16, o₁₆) ∷ []) n ≡ record { code = 14; a = v.0; b = v.1; c = v.2 })
fourteen (Some v) o₁₄ o₁₅ o₁₆ n h = let w : ⊥ = omega arith in absurd w
fourteen None (Some v) o₁₅ o₁₆ n h = (v, refl, refl)
fourteen None None (Some v) o₁₆ n h = let w : ⊥ = omega arith in absurd w
fourteen None None None None n h = let w : ⊥ = omega arith in absurd w
fourteen None None None (Some v) n h = let w : ⊥ = omega arith in absurd w

fifteen : (o₅ o₁₄ o₁₅ o₁₆ : Option (ℕ × ℕ × ℕ)) (n : ℕ) → (first_of ((5, o₅) ∷ (14, o₁₄) ∷ (15, o₁₅) ∷ (16, o₁₆) ∷ []) n).code ≡ 15
    → (v : ℕ × ℕ × ℕ) × (o₁₅ ≡ Some v) × (first_of ((5, o₅) ∷ (14, o₁₄) ∷ (15, o₁₅) ∷ (16, o₁₆) ∷ []) n ≡ record { code = 15; a = v.0; b = v.1; c = v.2 })
fifteen (Some v) o₁₄ o₁₅ o₁₆ n h = let w : ⊥ = omega arith in absurd w
fifteen None (Some v) o₁₅ o₁₆ n h = let w : ⊥ = omega arith in absurd w
fifteen None None (Some v) o₁₆ n h = (v, refl, refl)
fifteen None None None None n h = let w : ⊥ = omega arith in absurd w
fifteen None None None (Some v) n h = let w : ⊥ = omega arith in absurd w

returned_some : (o : Option ℕ) (v : ℕ × ℕ × ℕ) → returned o ≡ Some v → o ≡ Some v.0
returned_some None v h = let w : ⊥ = grind arith in absurd w
returned_some (Some x) v h = let q : (x, 0, 0) ≡ v = cc in ap (λ (u : ℕ × ℕ × ℕ). Some u.0) q

label_some : (o : Option (ℕ × ℕ)) (v : ℕ × ℕ × ℕ) → at_label o ≡ Some v → (u : ℕ × ℕ) × (o ≡ Some u) × (v.0 ≡ u.0) × (v.1 ≡ u.1)
label_some None v h = let w : ⊥ = grind arith in absurd w
label_some (Some u) v h = let q : (u.0, u.1, 0) ≡ v = cc in (u, refl, ap (λ (x : ℕ × ℕ × ℕ). x.0) (sym q), ap (λ (x : ℕ × ℕ × ℕ). x.1) (sym q))

not_lower_is : (l m : Link) → lower l m ≡ false → (m.producer < l.producer) ⊎ ((m.producer ≡ l.producer) × (m.consumer ≤ l.consumer))
not_lower_is l m h = grind arith

module _ (capacity : ℕ) (st : State) where
  at_untaken : (s : ℕ) → (verdict capacity st (Take s)).code ≡ 13
      → Holds st.plan.before (verdict capacity st (Take s)).a s × (In (verdict capacity st (Take s)).a st.taken → ⊥)
      × ((x : ℕ) → In x (steps_of st.plan) → x < (verdict capacity st (Take s)).a → Holds st.plan.before x s → In x st.taken)
  at_untaken s h =
      let r = thirteen (outside st.phase (Running ∷ [])) (nameless 1 (is_step st.plan.steps s ∷ [])) (when (among s st.taken)) (untaken_before st.plan st.taken s) _ h in
      let a : ℕ = r.0.0 in
      let test : ℕ → Bool = λ x. st.plan.before x s && not (among x st.taken) in
      let m = such_lowest test (steps_of st.plan) a (numbers_ascend st.plan.steps 0) (returned_some _ r.0 r.1) in
      let b = and_parts (st.plan.before a s) (not (among a st.taken)) m.0 in
      subst (λ (w : Row). Holds st.plan.before w.a s × (In w.a st.taken → ⊥)
      × ((x : ℕ) → In x (steps_of st.plan) → x < w.a → Holds st.plan.before x s → In x st.taken)) (sym r.2) (
        b.0,
        λ i. both_ways _ (not-true (among a st.taken) b.1) (in_among a st.taken i),
        λ x i l k. let z = m.1 x i l in among_in x st.taken (grind arith),
      )

  at_compound : (verdict capacity st Judge).code ≡ 14
      → ((t : Task) → task_of st.tasks st.plan (verdict capacity st Judge).a ≡ Some t → t.primitive ≡ false)
      × ((x : ℕ) (t : Task) → x < (verdict capacity st Judge).a → task_of st.tasks st.plan x ≡ Some t → t.primitive ≡ true)
  at_compound h =
      let r = fourteen (outside st.phase (Refine ∷ [])) (compound_step st.tasks st.plan) (need_unlinked st.tasks st.plan) (threat st.tasks st.plan) _ h in
      let a : ℕ = r.0.0 in
      let m = such_lowest (λ s. not (is_primitive (task_of st.tasks st.plan s))) (steps_of st.plan) a (numbers_ascend st.plan.steps 0) (returned_some _ r.0 r.1) in
      subst (λ (w : Row). ((t : Task) → task_of st.tasks st.plan w.a ≡ Some t → t.primitive ≡ false)
      × ((x : ℕ) (t : Task) → x < w.a → task_of st.tasks st.plan x ≡ Some t → t.primitive ≡ true)) (sym r.2) (
        λ t e. ap is_primitive (sym e) ∙ not-true _ m.0,
        λ x t l e. ap is_primitive (sym e) ∙ not-false _ (m.1 x (step_in st.tasks st.plan x t e) l),
      )

  at_unlinked : (verdict capacity st Judge).code ≡ 15
      → (Supplied st.plan (verdict capacity st Judge).a (verdict capacity st Judge).b → ⊥)
      × ((x j f : ℕ) (t : Task) → task_of st.tasks st.plan x ≡ Some t → Labelled t.needs j f
      → (x < (verdict capacity st Judge).a) ⊎ ((x ≡ (verdict capacity st Judge).a) × (j < (verdict capacity st Judge).b)) → Supplied st.plan x j)
  at_unlinked h =
      let r = fifteen (outside st.phase (Refine ∷ [])) (compound_step st.tasks st.plan) (need_unlinked st.tasks st.plan) (threat st.tasks st.plan) _ h in
      let u = label_some (first_found (unlinked_at st.tasks st.plan) (steps_of st.plan)) r.0 r.1 in
      let a : ℕ = u.0.0 in
      let b : ℕ = u.0.1 in
      let here = found_some (unlinked_at st.tasks st.plan) (steps_of st.plan) u.0 u.1 in
      let low = found_lowest (unlinked_at st.tasks st.plan) (steps_of st.plan) u.0 (numbers_ascend st.plan.steps 0) u.1 in
      let m = such_lowest (λ j. not (is_some (producer st.plan.links a j))) (upfrom 0 (length (needs_of (task_of st.tasks st.plan a)))) b (upfrom_ascend 0 _) here.1 in
      let label : (x j f : ℕ) (t : Task) → task_of st.tasks st.plan x ≡ Some t → Labelled t.needs j f → In j (upfrom 0 (length (needs_of (task_of st.tasks st.plan x)))) = λ x j f t e l.
      let n = nth_below t.needs j f l in
      let q : length (needs_of (task_of st.tasks st.plan x)) ≡ length t.needs = ap (λ (o : Option Task). length (needs_of o)) e in
      (upfrom_in 0 (length (needs_of (task_of st.tasks st.plan x))) j).1 (omega arith, omega arith) in
      let lower_step : (x j f : ℕ) (t : Task) → task_of st.tasks st.plan x ≡ Some t → Labelled t.needs j f → x < a → Supplied st.plan x j = λ x j f t e l k.
      let none = low x (step_in st.tasks st.plan x t e) k in
      producer_linked st.plan.links x j (not-false _ (such_none (λ i. not (is_some (producer st.plan.links x i))) (upfrom 0 (length (needs_of (task_of st.tasks st.plan x)))) none j (label x j f t e l))) in
      let same_step : (x j f : ℕ) (t : Task) → task_of st.tasks st.plan x ≡ Some t → Labelled t.needs j f → x ≡ a → j < b → Supplied st.plan x j = λ x j f t e l q k.
      let i : In j (upfrom 0 (length (needs_of (task_of st.tasks st.plan a)))) = subst (λ (y : ℕ). In j (upfrom 0 (length (needs_of (task_of st.tasks st.plan y))))) q (label x j f t e l) in
      subst (λ (y : ℕ). Supplied st.plan y j) (sym q) (producer_linked st.plan.links a j (not-false _ (m.1 j i k))) in
      let e₀ : a ≡ (verdict capacity st Judge).a = sym u.2 ∙ ap (λ (w : Row). w.a) (sym r.2) in
      let e₁ : b ≡ (verdict capacity st Judge).b = sym u.3 ∙ ap (λ (w : Row). w.b) (sym r.2) in
      let out : Supplied st.plan a b → ⊥ = λ k. both_ways _ (not-true _ m.0) (linked_producer st.plan.links a b k.0 k.1 k.2 k.3) in (
        subst₂ (λ (x y : ℕ). Supplied st.plan x y → ⊥) e₀ e₁ out,
        λ x j f t e l k. ⊎_elim (λ z. lower_step x j f t e l (subst (λ (y : ℕ). x < y) (sym e₀) z))
            (λ z. same_step x j f t e l (z.0 ∙ sym e₀) (subst (λ (y : ℕ). j < y) (sym e₁) z.1)) k,
      )

  at_threat : (verdict capacity st Judge).code ≡ 16
      → (l : Link) (f s : ℕ) → Linked l st.plan.links → Protects st.tasks st.plan l f → Threat st.tasks st.plan l f s
      → ((verdict capacity st Judge).a < s) ⊎ (((verdict capacity st Judge).a ≡ s)
      × (((verdict capacity st Judge).b < l.producer) ⊎ (((verdict capacity st Judge).b ≡ l.producer) × ((verdict capacity st Judge).c ≤ l.consumer))))
  at_threat h l f s i pr th =
      let r = sixteen (outside st.phase (Refine ∷ [])) (compound_step st.tasks st.plan) (need_unlinked st.tasks st.plan) (threat st.tasks st.plan) _ h in
      let find : ℕ → Option Link = λ x. lowest_link (threatens st.tasks st.plan x) st.plan.links in
      let v = r.1.0 in
      let x = ends_some (first_found find (steps_of st.plan)) v r.1.1 in
      let here = found_some find (steps_of st.plan) x.0 x.1 in
      let low = found_lowest find (steps_of st.plan) x.0 (numbers_ascend st.plan.steps 0) x.1 in
      let t = threat_tested st.tasks st.plan l f s pr th in
      let is : In s (steps_of st.plan) = step_in st.tasks st.plan s th.task th.is_step in
      let m : Link = x.0.1 in
      let found : (v.0 < s) ⊎ ((v.0 ≡ s) × ((v.1 < l.producer) ⊎ ((v.1 ≡ l.producer) × (v.2 ≤ l.consumer)))) = ⊎_elim
      (λ e. let q : x.0.0 ≡ s = e in
      let n = lowest_lowest (threatens st.tasks st.plan x.0.0) st.plan.links m here.1 l i (ap (λ (y : ℕ). threatens st.tasks st.plan y l) q ∙ t) in
      let c = not_lower_is l m n in
      let e₁ = x.3 in let e₂ = x.4 in
      inr (x.2 ∙ q, ⊎_elim (λ z. inl (omega arith)) (λ z. let z₀ = z.0 in let z₁ = z.1 in inr (omega arith, omega arith)) c))
      (λ o. ⊎_elim (λ k. let e = x.2 in inl (omega arith)) (λ k. let none = lowest_none (threatens st.tasks st.plan s) st.plan.links (low s is k) l i in let w : ⊥ = grind arith in absurd w) o)
      (cases_order x.0.0 s) in
      subst (λ (w : Row). (w.a < s) ⊎ ((w.a ≡ s) × ((w.b < l.producer) ⊎ ((w.b ≡ l.producer) × (w.c ≤ l.consumer))))) (sym r.1.2) found

pub lowest_named : LowestNamed
lowest_named capacity st = record {
  untaken = at_untaken capacity st;
  compound = at_compound capacity st;
  unlinked = at_unlinked capacity st;
  threat = at_threat capacity st;
}
