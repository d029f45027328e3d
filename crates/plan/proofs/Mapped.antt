-- `find_map`: the first thing that is found for the items of a list, and for the present steps.
use Rattle.std.proofs.Common.{◌≡◌, ℕ, suc, ◌+◌, ◌<◌, List, [], ◌∷◌, length, map, Some, None, Option, refl, sym, ap, subst, ◌∙◌, add-one, arith}
use denote.Param.Members.{Mut}
use Rattle.std.specs.Iterator.{AlwaysYields, Yields, FindsMapped}
use Rattle.std.specs.Iterator.Runs.{Run, SomeRun, AllItemsGive, IsFirstToGive}
use Rattle.std.specs.Fn.{Called}
use Rattle.std.specs.Option.{MatchOption, IfSome}
use Rattle.std.specs.Bool.{IsTrue}
use Rattle.std.proofs.iter.Yields.{gives_Drains}
use Rattle.std.proofs.iter.runs.Made.{at-is, took}
use Rattle.std.specs.List.{FoldsTo, range_with_len, slice_get}
use Rattle.semantics.specs.Causes.{first_found, also}
use Rattle.semantics.specs.Plans.{present_from}
use Rattle.plan.specs.Turns.{if_present, at_step, paired}
use Rattle.plan.proofs.Ups.{or_find}

-- the first thing that is found for an item of a list
abbrev pub first_mapped : {B Y : Type 0} → (B → Option Y) → List B → Option Y
first_mapped find [] = None
first_mapped find (x ∷ xs) = or_find (find x) (first_mapped find xs)

-- ---- the answer of `find_map`

none_mapped : {A B Y : Type 0} (v : A → B) (find : B → Option Y) (xs : List A) → ((k : ℕ) → IfSome (slice_get xs k) (λ x. None ≡ find (v x))) → None ≡ first_mapped find (map v xs)
none_mapped v find [] h = refl
none_mapped v find (x ∷ xs) h = none_mapped v find xs (λ k. h (suc k)) ∙ ap (λ o. or_find o (first_mapped find (map v xs))) (h 0)

module _ {S A B F Y : Type 0} (steps : S → Option A → S → Type 0) (v : A → B) (g : Mut F (A × Unit {0}) (Option Y)) (find : B → Option Y) (f : F)
    (k : (x : A) (b : Option Y) (q : F) → Called g f (x, tt) b q → (q ≡ f) × (b ≡ find (v x))) where
  some_mapped : (y : Y) (all : List B) (xs : List A) (s t u : S) (j : F) (o : Option A) → AlwaysYields steps v s all → Yields steps s xs t → steps t o u → FoldsTo (λ p x q. Called g p (x, tt) None q) f xs j
      → MatchOption o (Some y ≡ None) (λ x. (h : F) × Called g j (x, tt) (Some y) h) → Some y ≡ first_mapped find all
  some_mapped y [] [] s t u j None e n p c m = m
  some_mapped y (z ∷ all) [] s t u j None e n p c m = absurd (e.0 u (subst (λ i. steps i None u) (sym n) p))
  some_mapped y [] [] s t u j (Some x) e n p c m = absurd (e x u (subst (λ i. steps i (Some x) u) (sym n) p))
  some_mapped y (z ∷ all) [] s t u j (Some x) e n p c m =
      let q = (k x (Some y) m.0 (subst (λ i. Called g i (x, tt) (Some y) m.0) (sym c) m.1)).1 in
      let w = (e.1 x u (subst (λ i. steps i (Some x) u) (sym n) p)).0 in
      ap (λ o. or_find o (first_mapped find all)) (q ∙ ap find w)
  some_mapped y [] (x ∷ xs) s t u j o e n p c m = absurd (e x n.0 n.1)
  some_mapped y (z ∷ all) (x ∷ xs) s t u j o e n p c m =
      let q = k x None c.0 c.1 in
      let w = e.1 x n.0 n.1 in
      some_mapped y all xs n.0 t u j o w.1 n.2 p (subst (λ i. FoldsTo (λ p x q. Called g p (x, tt) None q) i xs j) q.0 c.2) m ∙ ap (λ o. or_find o (first_mapped find all)) (q.1 ∙ ap find w.0)

  told : (o : Option A) → IfSome o (λ x. Called g f (x, tt) None f) → IfSome o (λ x. None ≡ find (v x))
  told None h = tt
  told (Some x) h = (k x None f h).1

  none_found : (all : List B) (p : Run steps) → AlwaysYields steps v p.from all → IsTrue p.whole → ((i : ℕ) → IfSome (p.at i) (λ x. Called g f (x, tt) None f)) → None ≡ first_mapped find all
  none_found all p e w h =
      none_mapped v find p.items (λ i. told (slice_get p.items i) (subst (λ o. IfSome o (λ x. Called g f (x, tt) None f)) (at-is p i) (h i)))
      ∙ ap (first_mapped find) (gives_Drains steps v p.items all p.from e (let d = took p in ((d.2 w).0, (d.0, d.1, (d.2 w).1))))

  pub mapped : (r : Option Y) (s u : S) (all : List B) → AlwaysYields steps v s all → FindsMapped steps g s f r u
      → SomeRun steps s (λ p. MatchOption r (IsTrue p.whole × AllItemsGive p g f None) (λ y. (i : ℕ) × (i < p.len) × (p.len ≡ i + 1) × IsFirstToGive p g f (Some y) None i)) → r ≡ first_mapped find all
  mapped (Some y) s u all e d n = some_mapped y all d.0 s d.3.0 u d.2 d.1 e d.3.1 d.3.2 d.4 d.5
  mapped None s u all e d n = none_found all n.0 (subst (λ i. AlwaysYields steps v i all) (sym n.1) e) n.2.0 (λ i. n.2.1 (λ a b q c. (k a.0 b q c).0) i)

-- ---- over the numbers of the steps

module _ {Y : Type 0} (find : ℕ → Option Y) (at : ℕ → Option (ℕ × Y)) where
  -- the steps os have the numbers from k on
  found_from : (k : ℕ) (os : List (Option ℕ)) → ((i : ℕ) → at (k + i) ≡ if_present (slice_get os i) (paired (k + i) (find (k + i)))) → first_mapped at (range_with_len k (length os)) ≡ first_found find (present_from k os)
  found_from k [] h = refl
  found_from k (o ∷ os) h =
      let z : k + 0 ≡ k = omega arith in
      let here : at k ≡ if_present (Some o) (paired k (find k)) = subst (λ n. at n ≡ if_present (Some o) (paired n (find n))) z (h 0) in
      let later : first_mapped at (range_with_len (k + 1) (length os)) ≡ first_found find (present_from (suc k) os) =
      ap (λ n. first_mapped at (range_with_len n (length os))) (add-one k) ∙ found_from (suc k) os (λ i. let y : k + suc i ≡ suc k + i = omega arith in subst (λ n. at n ≡ if_present (slice_get os i) (paired n (find n))) y (h (suc i))) in
      ap (λ b. or_find b (first_mapped at (range_with_len (k + 1) (length os)))) here ∙ ap (or_find (if_present (Some o) (paired k (find k)))) later ∙ one o
    where
      both : (b : Option Y) (rest : Option (ℕ × Y)) → or_find (paired k b) rest ≡ also k b rest
      both None rest = refl
      both (Some y) rest = refl

      one : (o : Option ℕ) → or_find (if_present (Some o) (paired k (find k))) (first_found find (present_from (suc k) os)) ≡ first_found find (present_from k (o ∷ os))
      one None = refl
      one (Some t) = both (find k) (first_found find (present_from (suc k) os))

pub found_step : {Y : Type 0} (find : ℕ → Option Y) (os : List (Option ℕ)) → first_mapped (at_step os (λ x. paired x (find x))) (range_with_len 0 (length os)) ≡ first_found find (present_from 0 os)
found_step find os = found_from find (at_step os (λ x. paired x (find x))) 0 os (λ i. let z : 0 + i ≡ i = omega arith in subst (λ n. at_step os (λ x. paired x (find x)) n ≡ if_present (slice_get os i) (paired n (find n))) (sym z) refl)
