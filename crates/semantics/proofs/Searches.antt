-- What the tests and searches of the causes find.
use Rattle.std.proofs.Common.{◌≡◌, ℕ, zero, suc, ◌<◌, Bool, true, false, cond, not, ◌&&◌, eqb, ltb, ◌⊎◌, List, [], ◌∷◌, map, length, Some, None, Option, sym, refl, ap, ◌∙◌, subst, inl, inr, ⊎_elim, arith, is_some}
use Rattle.std.proofs.lemmas.Bool.{and_parts, eqb-true, ltb-true, not-false}
use Rattle.std.specs.List.{slice_get}
use Rattle.page.specs.declared.answer.Row.{Row}
use Rattle.semantics.specs.Causes.{also, Cause, first_found, first_of, first_such, nameless, or_else, when}
use Rattle.semantics.specs.Methods.{Method}
use Rattle.semantics.specs.OpenLines.{differ, is_step, there}
use Rattle.semantics.specs.Orders.{In}
use Rattle.semantics.specs.PlanLines.{lower, lower_of, lowest_link, lowest_with, other_task, producer}
use Rattle.semantics.specs.Plans.{Linked, present_from}
use Rattle.semantics.specs.Rules.{one_of, outside, rank}
use Rattle.semantics.specs.Tasks.{adds_of, Labelled, needs_of, Task}
use Rattle.semantics.specs.declared.link.Link.{Link}
use Rattle.semantics.specs.declared.phase.Phase.{Phase}
use Rattle.semantics.proofs.Inherited.{in_number, number_in}

-- no cause applies
abbrev pub Clear : List Cause → Type 0
Clear [] = Unit {0}
Clear (r ∷ rs) = (r.1 ≡ None) × Clear rs

-- each has a number above 0
abbrev pub numbered : List Cause → Bool
numbered [] = true
numbered (r ∷ rs) = ltb 0 r.0 && numbered rs

one_clear : (m : ℕ) (o : Option (ℕ × ℕ × ℕ)) (rest : Row) → ltb 0 m ≡ true → (or_else m o rest).code ≡ 0 → (o ≡ None) × (rest.code ≡ 0)
one_clear m None rest h e = (refl, e)
one_clear m (Some v) rest h e = let k = ltb-true 0 m h in let w : ⊥ = omega arith in absurd w

pub clear : (rs : List Cause) (n : ℕ) → numbered rs ≡ true → (first_of rs n).code ≡ 0 → Clear rs
clear [] n h e = tt
clear (r ∷ rs) n h e =
    let k = and_parts (ltb 0 r.0) (numbered rs) h in
    let c = one_clear r.0 r.1 (first_of rs n) k.0 e in
    (c.0, clear rs n k.1 c.1)

pub all_clear : (rs : List Cause) (n : ℕ) → Clear rs → first_of rs n ≡ record { code = 0; a = n; b = 0; c = 0 }
all_clear [] n c = refl
all_clear (r ∷ rs) n c = ap (λ (o : Option (ℕ × ℕ × ℕ)). or_else r.0 o (first_of rs n)) c.0 ∙ all_clear rs n c.1

pub when_none : (b : Bool) → when b ≡ None → b ≡ false
when_none true h = let w : ⊥ = grind arith in absurd w
when_none false h = refl

pub none_when : (b : Bool) → b ≡ false → when b ≡ None
none_when b h = ap when h

-- phases
rank_same : (p q : Phase) → rank p ≡ rank q → p ≡ q
rank_same p q h = grind arith

abbrev pub AnyOf : Phase → List Phase → Type 0
AnyOf ph [] = ⊥
AnyOf ph (q ∷ qs) = (ph ≡ q) ⊎ AnyOf ph qs

one_of_any : (ph : Phase) (qs : List Phase) → one_of ph qs ≡ true → AnyOf ph qs
one_of_any ph [] h = let w : ⊥ = grind arith in w
one_of_any ph (q ∷ qs) h = let ih = one_of_any ph qs in let r = rank_same ph q in grind arith

pub inside : (ph : Phase) (qs : List Phase) → outside ph qs ≡ None → AnyOf ph qs
inside ph qs h = one_of_any ph qs (not-false (one_of ph qs) (when_none (not (one_of ph qs)) h))

-- names
abbrev pub AllTrue : List Bool → Type 0
AllTrue [] = Unit {0}
AllTrue (b ∷ bs) = (b ≡ true) × AllTrue bs

pub named : (k : ℕ) (bs : List Bool) → nameless k bs ≡ None → AllTrue bs
named k [] h = tt
named k (true ∷ bs) h = (refl, named (suc k) bs h)
named k (false ∷ bs) h = let w : ⊥ = grind arith in absurd w

-- searches
pub such_none : (test : ℕ → Bool) (xs : List ℕ) → first_such test xs ≡ None → (x : ℕ) → In x xs → test x ≡ false
such_none test [] h x i = absurd i
such_none test (y ∷ ys) h x i = at (such_none test ys) (test y) refl h
  where
    at : (first_such test ys ≡ None → (z : ℕ) → In z ys → test z ≡ false) → (b : Bool) → test y ≡ b → cond b (Some y) (first_such test ys) ≡ None → test x ≡ false
    at ih true e k = let w : ⊥ = grind arith in absurd w
    at ih false e k = ⊎_elim (λ q. ap test q ∙ e) (λ j. ih k x j) i

pub none_such : (test : ℕ → Bool) (xs : List ℕ) → ((x : ℕ) → In x xs → test x ≡ false) → first_such test xs ≡ None
none_such test [] h = refl
none_such test (y ∷ ys) h =
    let e : test y ≡ false = h y (inl refl) in
    ap (λ (b : Bool). cond b (Some y) (first_such test ys)) e ∙ none_such test ys (λ x i. h x (inr i))

pub found_none : {X : Type 0} (find : ℕ → Option X) (xs : List ℕ) → first_found find xs ≡ None → (x : ℕ) → In x xs → find x ≡ None
found_none find [] h x i = absurd i
found_none {X} find (y ∷ ys) h x i = at (found_none find ys) (find y) refl h
  where
    at : (first_found find ys ≡ None → (z : ℕ) → In z ys → find z ≡ None) → (o : Option X) → find y ≡ o → also y o (first_found find ys) ≡ None → find x ≡ None
    at ih (Some z) e k = let w : ⊥ = grind arith in absurd w
    at ih None e k = ⊎_elim (λ q. ap find q ∙ e) (λ j. ih k x j) i

pub found_some : {X : Type 0} (find : ℕ → Option X) (xs : List ℕ) (v : ℕ × X) → first_found find xs ≡ Some v → In v.0 xs × (find v.0 ≡ Some v.1)
found_some find [] v h = let w : ⊥ = grind arith in absurd w
found_some {X} find (y ∷ ys) v h = at (found_some find ys v) (find y) refl h
  where
    at : (first_found find ys ≡ Some v → In v.0 ys × (find v.0 ≡ Some v.1)) → (o : Option X) → find y ≡ o → also y o (first_found find ys) ≡ Some v → In v.0 (y ∷ ys) × (find v.0 ≡ Some v.1)
    at ih (Some z) e k =
        let q : (y, z) ≡ v = cc in
        subst (λ (u : ℕ × X). In u.0 (y ∷ ys) × (find u.0 ≡ Some u.1)) q (inl refl, e)
    at ih None e k = let r = ih k in (inr r.0, r.1)

-- labels
pub same_fact : (fs gs : List ℕ) (i j : ℕ) → differ (slice_get fs i) (slice_get gs j) ≡ false → (f : ℕ) × Labelled fs i f × Labelled gs j f
same_fact fs gs i j h = at (slice_get fs i) (slice_get gs j) refl refl h
  where
    at : (o p : Option ℕ) → slice_get fs i ≡ o → slice_get gs j ≡ p → differ o p ≡ false → (f : ℕ) × Labelled fs i f × Labelled gs j f
    at (Some f) (Some g) d e k = let q : f ≡ g = eqb-true f g (not-false (eqb f g) k) in (f, d, e ∙ ap Some (sym q))
    at None p d e k = let w : ⊥ = grind arith in absurd w
    at (Some f) None d e k = let w : ⊥ = grind arith in absurd w

pub needs_some : (o : Option Task) (j f : ℕ) → Labelled (needs_of o) j f → (u : Task) × (o ≡ Some u) × Labelled u.needs j f
needs_some None j f h = let w : ⊥ = grind arith in absurd w
needs_some (Some u) j f h = (u, refl, h)

pub adds_some : (o : Option Task) (j f : ℕ) → Labelled (adds_of o) j f → (u : Task) × (o ≡ Some u) × Labelled u.adds j f
adds_some None j f h = let w : ⊥ = grind arith in absurd w
adds_some (Some u) j f h = (u, refl, h)

-- steps
there_some : (o : Option (Option ℕ)) → there o ≡ true → (t : ℕ) × (o ≡ Some (Some t))
there_some None h = let w : ⊥ = grind arith in absurd w
there_some (Some None) h = let w : ⊥ = grind arith in absurd w
there_some (Some (Some t)) h = (t, refl)

pub step_is_in : (ss : List (Option ℕ)) (s : ℕ) → is_step ss s ≡ true → In s (present_from 0 ss)
step_is_in ss s h = let r = there_some (slice_get ss s) h in let i = number_in ss 0 s r.0 r.1 in subst (λ (z : ℕ). In z (present_from 0 ss)) (omega arith) i

pub in_is_step : (ss : List (Option ℕ)) (s : ℕ) → In s (present_from 0 ss) → is_step ss s ≡ true
in_is_step ss s h =
    let r = in_number ss 0 s h in
    let e : slice_get ss s ≡ Some (Some r.1) = ap (slice_get ss) (omega (arith, r.2)) ∙ r.3 in
    ap there e

pub own_below : (ks : List ℕ) (s : ℕ) → is_step (map Some ks) s ≡ true → s < length ks
own_below [] s h = let w : ⊥ = grind arith in absurd w
own_below (k ∷ ks) zero h = omega arith
own_below (k ∷ ks) (suc s) h = let ih = own_below ks s h in omega arith

pub method_of : (o : Option (Option ℕ)) (om : Option Method) → other_task o om ≡ false → (m : Method) × (om ≡ Some m) × (o ≡ Some (Some m.task))
method_of (Some (Some t)) (Some m) h = (m, refl, ap (λ (k : ℕ). Some (Some k)) (eqb-true t m.task (not-false (eqb t m.task) h)))
method_of None om h = let w : ⊥ = grind arith in absurd w
method_of (Some None) om h = let w : ⊥ = grind arith in absurd w
method_of (Some (Some t)) None h = let w : ⊥ = grind arith in absurd w

pub some_of : {X : Type 0} (o : Option X) → is_some o ≡ true → (x : X) × (o ≡ Some x)
some_of None h = let w : ⊥ = grind arith in absurd w
some_of (Some x) h = (x, refl)

-- links
pub producer_linked : (ls : List Link) (s j : ℕ) → is_some (producer ls s j) ≡ true → (l : Link) × Linked l ls × (l.consumer ≡ s) × (l.need ≡ j)
producer_linked [] s j h = let w : ⊥ = grind arith in absurd w
producer_linked (l ∷ ls) s j h = at (producer_linked ls s j) (eqb l.consumer s && eqb l.need j) refl h
  where
    at : (is_some (producer ls s j) ≡ true → (k : Link) × Linked k ls × (k.consumer ≡ s) × (k.need ≡ j))
        → (b : Bool) → (eqb l.consumer s && eqb l.need j) ≡ b → is_some (cond b (lower_of l.producer (producer ls s j)) (producer ls s j)) ≡ true
        → (k : Link) × Linked k (l ∷ ls) × (k.consumer ≡ s) × (k.need ≡ j)
    at ih true e k = let p = and_parts (eqb l.consumer s) (eqb l.need j) e in (l, inl refl, eqb-true l.consumer s p.0, eqb-true l.need j p.1)
    at ih false e k = let r = ih k in (r.0, inr r.1, r.2, r.3)

pub lowest_none : (test : Link → Bool) (ls : List Link) → lowest_link test ls ≡ None → (l : Link) → Linked l ls → test l ≡ false
lowest_none test [] h l i = absurd i
lowest_none test (k ∷ ks) h l i = at (λ z. lowest_none test ks z l) (test k) (lowest_link test ks) refl refl h
  where
    at : (lowest_link test ks ≡ None → Linked l ks → test l ≡ false) → (b : Bool) (o : Option Link) → test k ≡ b → lowest_link test ks ≡ o → lowest_with b k o ≡ None → test l ≡ false
    at ih true None e q z = let w : ⊥ = grind arith in absurd w
    at ih true (Some m) e q z = let w : ⊥ = grind arith in absurd w
    at ih false o e q z = ⊎_elim (λ r. ap test r ∙ e) (λ j. ih (q ∙ z) j) i

pub lowest_some : (test : Link → Bool) (ls : List Link) (l : Link) → lowest_link test ls ≡ Some l → Linked l ls × (test l ≡ true)
lowest_some test [] l h = let w : ⊥ = grind arith in absurd w
lowest_some test (k ∷ ks) l h = at (λ q. lowest_some test ks l q) (test k) (lowest_link test ks) refl refl h
  where
    here : test k ≡ true → k ≡ l → Linked l (k ∷ ks) × (test l ≡ true)
    here e q = (inl (sym q), ap test (sym q) ∙ e)

    pick : (lowest_link test ks ≡ Some l → Linked l ks × (test l ≡ true)) → (m : Link) (b : Bool) → test k ≡ true → lowest_link test ks ≡ Some m → ◌≡◌ {A = Option Link} (Some (cond b m k)) (Some l) → Linked l (k ∷ ks) × (test l ≡ true)
    pick ih m true e q z = let r = ih (q ∙ z) in (inr r.0, r.1)
    pick ih m false e q z = here e (cc)

    at : (lowest_link test ks ≡ Some l → Linked l ks × (test l ≡ true)) → (b : Bool) (o : Option Link) → test k ≡ b → lowest_link test ks ≡ o → lowest_with b k o ≡ Some l → Linked l (k ∷ ks) × (test l ≡ true)
    at ih true None e q z = here e (cc)
    at ih true (Some m) e q z = pick ih m (lower m k) e q z
    at ih false o e q z = let r = ih (q ∙ z) in (inr r.0, r.1)
