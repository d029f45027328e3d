-- The lowest of what a chain of iterators hands out, as the rules define it by going down a list.
use Rattle.std.proofs.Common.{◌≡◌, ℕ, suc, Bor, Bool, true, false, cond, ◌&&◌, eqb, List, [], ◌∷◌, map, length, filter, min, is_some, Some, None, Option, sym, refl, ap, subst, ◌∙◌, ap₂, arith}
use mathlib.Core.Path.{fun_ext}
use Rattle.std.proofs.lemmas.Bool.Decides.{nat_tests}
use Rattle.std.proofs.lemmas.Iterator.{YieldsList}
use Rattle.std.proofs.lemmas.Iterator.Consumers.{reduce_from_yields_List}
use Rattle.std.specs.Iterator.{KeyTurn, PicksMinByKey}
use Rattle.std.specs.Fn.{CalledAt}
use denote.Param.Members.{Mut}
use Rattle.std.specs.Ordering.{min_by_ordering, nat_cmp, ordering_then}
use Rattle.std.specs.declared.cmp.Ordering.{Ordering}
use Rattle.std.specs.declared.cmp.Ordering.TheVariants.{Less, Equal, Greater}
use Rattle.std.proofs.lemmas.List.Sums.{length-filter}
use Rattle.std.specs.List.{count_by, fold, FoldsTo, reduce}
use Rattle.semantics.specs.PlanLines.{lower, lower_of, lowest_link, lowest_with, producer}
use Rattle.semantics.specs.Plans.{present_from}
use Rattle.semantics.specs.declared.link.Link.{Link}

-- ---- a fold from the left is one from the right, where the grouping says nothing

module _ {X : Type 0} (op : X → X → X) (grouped : (x y z : X) → op (op x y) z ≡ op x (op y z)) where
  abbrev pub joined : X → Option X → Option X
  joined x None = Some x
  joined x (Some y) = Some (op x y)

  abbrev pub right : List X → Option X
  right [] = None
  right (x ∷ xs) = joined x (right xs)

  joined_grouped : (x y : X) (o : Option X) → joined (op x y) o ≡ joined x (joined y o)
  joined_grouped x y None = refl
  joined_grouped x y (Some z) = ap Some (grouped x y z)

  from_left : (x : X) (xs : List X) → Some (fold op x xs) ≡ joined x (right xs)
  from_left x [] = refl
  from_left x (y ∷ ys) = from_left (op x y) ys ∙ joined_grouped x y (right ys)

  pub reduced : (xs : List X) → reduce op xs ≡ right xs
  reduced [] = refl
  reduced (x ∷ xs) = from_left x xs

-- ---- the lowest producer

min_grouped : (x y z : ℕ) → min (min x y) z ≡ min x (min y z)
min_grouped x y z = omega arith

low_is_min : (x : ℕ) (o : Option ℕ) → joined min min_grouped x o ≡ lower_of x o
low_is_min x None = refl
low_is_min x (Some y) = ap Some (grind (arith, nat_tests))

module _ (s j : ℕ) where
  -- whether the link goes to need j of step s
  abbrev pub goes : Link → Bool
  goes l = eqb l.consumer s && eqb l.need j

  abbrev producers : List Link → List ℕ
  producers ls = map (λ (l : Link). l.producer) (filter goes ls)

  linked : (ls : List Link) → right min min_grouped (producers ls) ≡ producer ls s j
  linked [] = refl
  linked (l ∷ ls) = one (goes l) (linked ls)
    where
      one : (b : Bool) → right min min_grouped (producers ls) ≡ producer ls s j
          → right min min_grouped (map (λ (k : Link). k.producer) (cond b (l ∷ filter goes ls) (filter goes ls))) ≡ cond b (lower_of l.producer (producer ls s j)) (producer ls s j)
      one true e = low_is_min l.producer (right min min_grouped (producers ls)) ∙ ap (lower_of l.producer) e
      one false e = e

  pub lowest_producer : (ls : List Link) → reduce min (map (λ (l : Link). l.producer) (filter goes ls)) ≡ producer ls s j
  lowest_producer ls = reduced min min_grouped (producers ls) ∙ linked ls

-- ---- the lowest link

-- the lower of two links, and the first where neither is lower
abbrev pub lower_link : Link → Link → Link
lower_link k l = cond (lower l k) l k

lower_grouped : (k l m : Link) → lower_link (lower_link k l) m ≡ lower_link k (lower_link l m)
lower_grouped k l m = grind (arith, nat_tests)

low_is_lower : (k : Link) (o : Option Link) → joined lower_link lower_grouped k o ≡ lowest_with true k o
low_is_lower k None = refl
low_is_lower k (Some l) = refl

-- the same by comparing pairs of numbers
abbrev pub by_ends : Link → Link → Link
by_ends k l = min_by_ordering (ordering_then (nat_cmp k.producer l.producer) (nat_cmp k.consumer l.consumer)) k l

by_ends_lower : (k l : Link) → by_ends k l ≡ lower_link k l
by_ends_lower k l = grind (arith, nat_tests)

module _ (test : Link → Bool) where
  passed : (ls : List Link) → right lower_link lower_grouped (filter test ls) ≡ lowest_link test ls
  passed [] = refl
  passed (l ∷ ls) = one (test l) (passed ls)
    where
      one : (b : Bool) → right lower_link lower_grouped (filter test ls) ≡ lowest_link test ls
          → right lower_link lower_grouped (cond b (l ∷ filter test ls) (filter test ls)) ≡ lowest_with b l (lowest_link test ls)
      one true e = low_is_lower l (right lower_link lower_grouped (filter test ls)) ∙ ap (lowest_with true l) e
      one false e = e

  pub lowest_passed : (ls : List Link) → reduce by_ends (filter test ls) ≡ lowest_link test ls
  lowest_passed ls =
      ap (λ (op : Link → Link → Link). reduce op (filter test ls)) (fun_ext (λ k. fun_ext (λ l. by_ends_lower k l)))
      ∙ reduced lower_link lower_grouped (filter test ls)
      ∙ passed ls

-- ---- `min_by_key` over a chain that hands out all of a list

module _ {K : Type 0} (cmp : K → K → Ordering) (key : Link → K) where
  -- the one of the lower key, and the first where neither key is lower
  abbrev pub best : Link → Link → Link
  best k l = min_by_ordering (cmp (key k) (key l)) k l

key_of_best : {K : Type 0} (key : Link → K) (o : Ordering) (k l : Link) → min_by_ordering o (key k) (key l) ≡ key (min_by_ordering o k l)
key_of_best key Less k l = refl
key_of_best key Equal k l = refl
key_of_best key Greater k l = refl

module _ {F K : Type 0} (g : Mut F (Bor Link × Unit {0}) K) (cmp : K → K → Ordering) (key : Link → K) {f : F} (same : (x : Link) (k : K) (q : F) → CalledAt g f x k q → (q ≡ f) × (k ≡ key x)) where
  abbrev Turn : (F × K) × Link → Link → (F × K) × Link → Type 0
  Turn = KeyTurn min_by_ordering min_by_ordering g cmp

  turned : (k l : Link) (j : (F × K) × Link) → Turn ((f, key k), k) l j → j ≡ ((f, key (best cmp key k l)), best cmp key k l)
  turned k l j t =
      let called = same l t.0 j.0.0 t.2 in
      let o : t.1 ≡ cmp (key k) (key l) = sym t.3 ∙ ap (cmp (key k)) called.1 in
      let low : j.0.1 ≡ key (best cmp key k l) = t.4 ∙ ap₂ (λ w h. min_by_ordering w (key k) h) o called.1 ∙ key_of_best key (cmp (key k) (key l)) k l in
      let link : j.1 ≡ best cmp key k l = t.5 ∙ ap (λ w. min_by_ordering w k l) o in
      ap₂ (λ (a : F × K) (b : Link). (a, b)) (ap₂ (λ (a : F) (b : K). (a, b)) called.0 low) link

  turns : (k : Link) (ls : List Link) (q : F × K) (m : Link) → FoldsTo {P = (F × K) × Link} Turn ((f, key k), k) ls (q, m) → FoldsTo (λ p z c. c ≡ best cmp key p z) k ls m
  turns k [] q m t = ap (λ (e : (F × K) × Link). e.1) t
  turns k (l ∷ ls) q m t =
      (best cmp key k l, refl, turns (best cmp key k l) ls q m (subst (λ (e : (F × K) × Link). FoldsTo {P = (F × K) × Link} Turn e ls (q, m)) (turned k l t.0 t.1) t.2))

  module _ {S : Type 0} {steps : S → Option Link → S → Type 0} where
    pub reduce_by_key : (s : S) (r : Option Link) (all : List Link) → PicksMinByKey steps g cmp s f r → YieldsList steps (λ x. x) s all → r ≡ reduce (best cmp key) all
    reduce_by_key s None all h y = reduce_from_yields_List (best cmp key) s None h y
    reduce_by_key s (Some m) all h y =
        let called = same h.0 h.2 h.3 h.6 in
        let state : ((h.3, h.2), h.0) ≡ ((f, key h.0), h.0) = ap₂ (λ (a : F) (b : K). ((a, b), h.0)) called.0 called.1 in
        let folds = subst (λ (e : (F × K) × Link). FoldsTo {P = (F × K) × Link} Turn e h.1 (h.4, m)) state h.7 in
        reduce_from_yields_List (best cmp key) s (Some m) (h.0, h.1, h.5, turns h.0 h.1 h.4 m folds) y

-- ---- how many steps are present

kept : (k : ℕ) (os : List (Option ℕ)) → length (filter {X = Option ℕ} (λ o. is_some o) os) ≡ length (present_from k os)
kept k [] = refl
kept k (None ∷ os) = kept (suc k) os
kept k (Some t ∷ os) = ap suc (kept (suc k) os)

pub count_present : (os : List (Option ℕ)) → count_by {X = Option ℕ} (λ o. is_some o) os ≡ length (present_from 0 os)
count_present os = sym (length-filter (λ (o : Option ℕ). is_some o) os) ∙ kept 0 os
