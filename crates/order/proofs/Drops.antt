-- A step dropped from a list of pairs: the other pairs, and those that ran through it.
use Rattle.std.proofs.Common.{◌≡◌, ℕ, ◌+◌, ◌<◌, Bool, true, false, cond, eqb, ◌⊎◌, List, [], ◌∷◌, ◌++◌, length, get_or, drop, sym, refl, ap, ◌∙◌, subst, inl, inr, ⊎_elim, arith}
use Rattle.std.proofs.lemmas.List.{at_drop_more}
use Rattle.std.proofs.lemmas.Bool.{cases_eq, cond-true, eq-eqb, ne_eqb}
use Rattle.std.proofs.lemmas.Bool.Decides.{nat_tests}
use Rattle.order.specs.Puts.{can_put, nothing, Order}
use Rattle.order.specs.Stored.{closure, onward, others, put_or_not, put_some, through}
use Rattle.order.proofs.Copying.{free_within}
use Rattle.order.specs.Lists.{closure_has, closure_least}
use Rattle.order.specs.Ordered.{free_put, order_dropped, same_pairs}
use Rattle.semantics.specs.Closures.{Listed}
use Rattle.semantics.specs.Orders.{dropped, Holds, put, Relation, Transitive}
use Rattle.semantics.proofs.Orders.{put_smallest}

-- what each turn of the loop does
some_append : (n : ℕ) (R : Relation) (ps qs : List (ℕ × ℕ)) → put_some n R (ps ++ qs) ≡ put_some n (put_some n R ps) qs
some_append n R [] qs = refl
some_append n R (p ∷ ps) qs = some_append n (put_or_not n R p.0 p.1) ps qs

pub through_add : (n : ℕ) (R : Relation) (a : ℕ) (all : List (ℕ × ℕ)) (p : ℕ × ℕ) (ps : List (ℕ × ℕ)) → eqb p.1 a ≡ true
    → put_some n R (through a all (p ∷ ps)) ≡ put_some n (put_some n R (onward a p.0 all)) (through a all ps)
through_add n R a all p ps e =
    ap (put_some n R) (cond-true (eqb p.1 a) (onward a p.0 all ++ through a all ps) (through a all ps) e) ∙ some_append n R (onward a p.0 all) (through a all ps)

pub through_skip : (n : ℕ) (R : Relation) (a : ℕ) (all : List (ℕ × ℕ)) (p : ℕ × ℕ) (ps : List (ℕ × ℕ)) → eqb p.1 a ≡ false
    → put_some n R (through a all (p ∷ ps)) ≡ put_some n R (through a all ps)
through_skip n R a all p ps e = ap (λ (t : Bool). put_some n R (cond t (onward a p.0 all ++ through a all ps) (through a all ps))) e

-- what is left of the list after place i
left : {Y : Type 0} (F : List (ℕ × ℕ) → Y) (ps : List (ℕ × ℕ)) (i : ℕ) (p : ℕ × ℕ) → i < length ps → p ≡ get_or ps i (0, 0) → F (drop i ps) ≡ F (p ∷ drop (i + 1) ps)
left F ps i p l e = at_drop_more F ps i (0, 0) l ∙ ap (λ (q : ℕ × ℕ). F (q ∷ drop (i + 1) ps)) (sym e)

module _ (R : Relation) (a : ℕ) (ps : List (ℕ × ℕ)) (i : ℕ) (p : ℕ × ℕ) (l : i < length ps) (is : p ≡ get_or ps i (0, 0)) (whole : Relation) where
  pub through_turn : (all : List (ℕ × ℕ)) (S : Relation) → p.1 ≡ a → S ≡ put_some 32 R (onward a p.0 all)
      → put_some 32 R (through a all (drop i ps)) ≡ whole → put_some 32 S (through a all (drop (i + 1) ps)) ≡ whole
  through_turn all S t e h =
      ap (λ (Q : Relation). put_some 32 Q (through a all (drop (i + 1) ps))) e
      ∙ sym (through_add 32 R a all p (drop (i + 1) ps) (eq-eqb p.1 a t)) ∙ sym (left (λ q. put_some 32 R (through a all q)) ps i p l is) ∙ h

  pub through_pass : (all : List (ℕ × ℕ)) → (p.1 ≡ a → ⊥)
      → put_some 32 R (through a all (drop i ps)) ≡ whole → put_some 32 R (through a all (drop (i + 1) ps)) ≡ whole
  through_pass all t h =
      sym (through_skip 32 R a all p (drop (i + 1) ps) (ne_eqb p.1 a t)) ∙ sym (left (λ q. put_some 32 R (through a all q)) ps i p l is) ∙ h

-- T holds S and the pairs, is transitive, and within D
pub record Grown (D S : Relation) (ps : List (ℕ × ℕ)) (T : Relation) : Type 0 where
  pub sub : (x y : ℕ) → Holds T x y → Holds D x y
  pub passes_on : Transitive T
  pub keeps : (x y : ℕ) → Holds S x y → Holds T x y
  pub has : (x y : ℕ) → Listed x y ps → Holds T x y

-- pairs of an order, put where no more than that order is kept
grown_all : (n : ℕ) (D : Relation) → Order n D → (ps : List (ℕ × ℕ)) (S : Relation) → ((x y : ℕ) → Holds S x y → Holds D x y) → Transitive S
    → ((x y : ℕ) → Listed x y ps → Holds D x y) → Grown D S ps (put_some n S ps)
grown_all n D o [] S sub tr in_d = record { sub = sub; passes_on = tr; keeps = λ x y h. h; has = λ x y h. absurd h }
grown_all n D o (p ∷ ps) S sub tr in_d =
    let a = p.0 in
    let b = p.1 in
    let here = in_d a b (inl (refl, refl)) in
    let m = put_smallest S a b tr in
    let ih = grown_all n D o ps (put S a b) (m.no_more D sub here o.strict.passes_on) m.passes_on (λ x y l. in_d x y (inr l)) in
    let taken : put_or_not n S a b ≡ put S a b = cond-true (can_put n S a b) (put S a b) S (free_put n S a b (free_within n D S a b o sub here)) in
    subst (λ (Q : Relation). Grown D S (p ∷ ps) (put_some n Q ps)) (sym taken) record {
      sub = ih.sub;
      passes_on = ih.passes_on;
      keeps = λ x y h. ih.keeps x y (m.keeps x y h);
      has = λ x y l. ⊎_elim
          (λ e. subst (λ (u : ℕ). Holds (put_some n (put S a b) ps) u y) (sym e.0) (subst (λ (v : ℕ). Holds (put_some n (put S a b) ps) a v) (sym e.1) (ih.keeps a b m.has)))
          (λ k. ih.has x y k) l;
    }

others_listed : (a : ℕ) (ps : List (ℕ × ℕ)) (x y : ℕ) → Listed x y (others a ps) → Listed x y ps × (x ≡ a → ⊥) × (y ≡ a → ⊥)
others_listed a [] x y h = absurd h
others_listed a (p ∷ ps) x y h = let ih = others_listed a ps x y in grind (arith, nat_tests)

listed_others : (a : ℕ) (ps : List (ℕ × ℕ)) (x y : ℕ) → Listed x y ps → (x ≡ a → ⊥) → (y ≡ a → ⊥) → Listed x y (others a ps)
listed_others a [] x y h n m = h
listed_others a (p ∷ ps) x y h n m = let ih = listed_others a ps x y in grind (arith, nat_tests)

onward_listed : (a x : ℕ) (ps : List (ℕ × ℕ)) (u y : ℕ) → Listed u y (onward a x ps) → (u ≡ x) × Listed a y ps
onward_listed a x [] u y h = absurd h
onward_listed a x (p ∷ ps) u y h = let ih = onward_listed a x ps u y in grind (arith, nat_tests)

listed_onward : (a x : ℕ) (ps : List (ℕ × ℕ)) (y : ℕ) → Listed a y ps → Listed x y (onward a x ps)
listed_onward a x [] y h = h
listed_onward a x (p ∷ ps) y h = let ih = listed_onward a x ps y in grind (arith, nat_tests)

in_both : (ps qs : List (ℕ × ℕ)) (x y : ℕ) → Listed x y (ps ++ qs) → Listed x y ps ⊎ Listed x y qs
in_both [] qs x y h = inr h
in_both (p ∷ ps) qs x y h = let ih = in_both ps qs x y in grind arith

in_first : (ps qs : List (ℕ × ℕ)) (x y : ℕ) → Listed x y ps → Listed x y (ps ++ qs)
in_first [] qs x y h = absurd h
in_first (p ∷ ps) qs x y h = let ih = in_first ps qs x y in grind arith

in_second : (ps qs : List (ℕ × ℕ)) (x y : ℕ) → Listed x y qs → Listed x y (ps ++ qs)
in_second [] qs x y h = h
in_second (p ∷ ps) qs x y h = inr (in_second ps qs x y h)

through_listed : (a : ℕ) (all ps : List (ℕ × ℕ)) (x y : ℕ) → Listed x y (through a all ps) → Listed x a ps × Listed a y all
through_listed a all [] x y h = absurd h
through_listed a all (p ∷ ps) x y h =
    let ih = through_listed a all ps x y in
    let both = in_both (onward a p.0 all) (through a all ps) x y in
    let on = onward_listed a p.0 all x y in
    grind (arith, nat_tests)

listed_through : (a : ℕ) (all ps : List (ℕ × ℕ)) (x y : ℕ) → Listed x a ps → Listed a y all → Listed x y (through a all ps)
listed_through a all [] x y h k = absurd h
listed_through a all (p ∷ ps) x y h k =
    let ih = listed_through a all ps x y in
    let first = in_first (onward a p.0 all) (through a all ps) x y in
    let second = in_second (onward a p.0 all) (through a all ps) x y in
    let on = listed_onward a p.0 all y in
    grind (arith, nat_tests)

module _ (n : ℕ) (ps : List (ℕ × ℕ)) (o : Order n (closure ps)) (a : ℕ) where
  others_in : (x y : ℕ) → Listed x y (others a ps) → Holds (dropped (closure ps) a) x y
  others_in x y l =
      let k = others_listed a ps x y l in
      let h = closure_has ps x y k.0 in
      grind (arith, nat_tests, k.1, k.2)

  none : Listed a a ps → ⊥
  none l = o.strict.never_itself a (closure_has ps a a l)

  through_in : (x y : ℕ) → Listed x y (through a ps ps) → Holds (dropped (closure ps) a) x y
  through_in x y l =
      let k = through_listed a ps ps x y l in
      let h = o.strict.passes_on x a y (closure_has ps x a k.0) (closure_has ps a y k.1) in
      let nx : x ≡ a → ⊥ = λ e. none (subst (λ (u : ℕ). Listed u a ps) e k.0) in
      let ny : y ≡ a → ⊥ = λ e. none (subst (λ (u : ℕ). Listed a u ps) e k.1) in
      grind (arith, nat_tests)

  -- the pairs that the list keeps, and what follows from them
  kept_others : Relation
  kept_others = put_some n nothing (others a ps)

  kept : Relation
  unfolding kept_others
  kept = put_some n kept_others (through a ps ps)

  grown_others : Grown (dropped (closure ps) a) nothing (others a ps) kept_others
  unfolding kept_others
  grown_others = grown_all n (dropped (closure ps) a) (order_dropped n (closure ps) a o) (others a ps) nothing (λ x y h. let z : ⊥ = grind arith in absurd z) (λ x y z h k. h) others_in

  grown_kept : Grown (dropped (closure ps) a) kept_others (through a ps ps) kept
  unfolding kept kept_others
  grown_kept = grown_all n (dropped (closure ps) a) (order_dropped n (closure ps) a o) (through a ps ps) kept_others grown_others.sub grown_others.passes_on through_in

  no_to : (x : ℕ) → Holds kept x a → ⊥
  no_to x h = let k = grown_kept.sub x a h in grind (arith, nat_tests)

  no_from : (y : ℕ) → Holds kept a y → ⊥
  no_from y h = let k = grown_kept.sub a y h in grind (arith, nat_tests)

  was : (x y : ℕ) → Holds kept x y → Holds (closure ps) x y
  was x y h = let k = grown_kept.sub x y h in grind arith

  -- x is or comes before a step that a pair leads from to a; y is or comes after one that a pair leads to from a
  Into : ℕ → Type 0
  Into x = (p : ℕ) × Listed p a ps × ((x ≡ p) ⊎ Holds kept x p)

  OutOf : ℕ → Type 0
  OutOf y = (q : ℕ) × Listed a q ps × ((q ≡ y) ⊎ Holds kept q y)

  -- what followed from all the pairs, by what is kept
  Way : ℕ → ℕ → Type 0
  Way x y = Holds kept x y ⊎ (((y ≡ a) × Into x) ⊎ ((x ≡ a) × OutOf y))

  into_more : (x y : ℕ) → Holds kept x y → Into y → Into x
  unfolding Into
  into_more x y h i = (i.0, i.1, inr (⊎_elim (λ e. subst (λ (u : ℕ). Holds kept x u) e h) (λ k. grown_kept.passes_on x y i.0 h k) i.2))

  out_more : (y z : ℕ) → OutOf y → Holds kept y z → OutOf z
  unfolding OutOf
  out_more y z i h = (i.0, i.1, inr (⊎_elim (λ e. subst (λ (u : ℕ). Holds kept u z) (sym e) h) (λ k. grown_kept.passes_on i.0 y z k h) i.2))

  not_into : Into a → ⊥
  unfolding Into
  not_into i = ⊎_elim (λ e. none (subst (λ (u : ℕ). Listed u a ps) (sym e) i.1)) (λ k. no_from i.0 k) i.2

  not_out : OutOf a → ⊥
  unfolding OutOf
  not_out i = ⊎_elim (λ e. none (subst (λ (u : ℕ). Listed a u ps) e i.1)) (λ k. no_to i.0 k) i.2

  across : (x z : ℕ) → Into x → OutOf z → Holds kept x z
  unfolding Into OutOf
  across x z i k =
      let p = i.0 in
      let q = k.0 in
      let mid = grown_kept.has p q (listed_through a ps ps p q i.1 k.1) in
      let front : Holds kept x q = ⊎_elim (λ e. subst (λ (u : ℕ). Holds kept u q) (sym e) mid) (λ h. grown_kept.passes_on x p q h mid) i.2 in
      ⊎_elim (λ e. subst (λ (u : ℕ). Holds kept x u) e front) (λ h. grown_kept.passes_on x q z front h) k.2

  no_circle : (y : ℕ) → OutOf y → Into y → ⊥
  unfolding Into OutOf
  no_circle y k i =
      let tr = o.strict.passes_on in
      let to_y : Holds (closure ps) a y =
      ⊎_elim (λ e. subst (λ (u : ℕ). Holds (closure ps) a u) e (closure_has ps a k.0 k.1)) (λ h. tr a k.0 y (closure_has ps a k.0 k.1) (was k.0 y h)) k.2 in
      let from-y : Holds (closure ps) y a =
      ⊎_elim (λ e. subst (λ (u : ℕ). Holds (closure ps) u a) (sym e) (closure_has ps i.0 a i.1)) (λ h. tr y i.0 a (was y i.0 h) (closure_has ps i.0 a i.1)) i.2 in
      o.strict.never_itself a (tr a y a to_y from-y)

  way_on : (x y z : ℕ) → Way x y → Way y z → Way x z
  unfolding Way
  way_on x y z (inl h) (inl k) = inl (grown_kept.passes_on x y z h k)
  way_on x y z (inl h) (inr (inl k)) = inr (inl (k.0, into_more x y h k.1))
  way_on x y z (inl h) (inr (inr k)) = absurd (no_to x (subst (λ (u : ℕ). Holds kept x u) k.0 h))
  way_on x y z (inr (inl h)) (inl k) = absurd (no_from z (subst (λ (u : ℕ). Holds kept u z) h.0 k))
  way_on x y z (inr (inl h)) (inr (inl k)) = absurd (not_into (subst Into h.0 k.1))
  way_on x y z (inr (inl h)) (inr (inr k)) = inl (across x z h.1 k.1)
  way_on x y z (inr (inr h)) (inl k) = inr (inr (h.0, out_more y z h.1 k))
  way_on x y z (inr (inr h)) (inr (inl k)) = absurd (no_circle y h.1 k.1)
  way_on x y z (inr (inr h)) (inr (inr k)) = absurd (not_out (subst OutOf k.0 h.1))

  way_by : (x y : ℕ) → Listed x y ps → (x ≡ a) ⊎ (x ≡ a → ⊥) → (y ≡ a) ⊎ (y ≡ a → ⊥) → Way x y
  unfolding Way Into OutOf
  way_by x y l (inl e) f = inr (inr (e, (y, subst (λ (u : ℕ). Listed u y ps) e l, inl refl)))
  way_by x y l (inr e) (inl f) = inr (inl (f, (x, subst (λ (u : ℕ). Listed x u ps) f l, inl refl)))
  way_by x y l (inr e) (inr f) = inl (grown_kept.keeps x y (grown_others.has x y (listed_others a ps x y l e f)))

  way_kept : (x y : ℕ) → (x ≡ a → ⊥) → (y ≡ a → ⊥) → Way x y → Holds kept x y
  unfolding Way
  way_kept x y n m (inl h) = h
  way_kept x y n m (inr (inl h)) = absurd (m h.0)
  way_kept x y n m (inr (inr h)) = absurd (n h.0)

  back : (x y : ℕ) → Holds (dropped (closure ps) a) x y → Holds kept x y
  back x y h =
      let w = closure_least ps Way (λ u v l. way_by u v l (cases_eq u a) (cases_eq v a)) way_on x y (grind arith) in
      way_kept x y (λ e. grind (arith, nat_tests)) (λ e. grind (arith, nat_tests)) w

  pub dropped_list : put_some n (put_some n nothing (others a ps)) (through a ps ps) ≡ dropped (closure ps) a
  unfolding kept kept_others
  dropped_list = same_pairs kept (dropped (closure ps) a) grown_kept.sub back
