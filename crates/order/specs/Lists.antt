-- What follows from a list of pairs, and a list with one pair more.
use Rattle.std.specs.Prelude.{◌≡◌, ℕ, zero, suc, ◌+◌, ◌<◌, ◌≤◌, true, false, ◌⊎◌, ◌↔◌, List, [], ◌∷◌, ◌++◌, length, take, ◌≢◌, slice_index_or, refl}
use Rattle.std.proofs.Math.Bool.{Bool-set}
use Rattle.std.proofs.Common.{inl, inr, ◌∙◌, ap, subst, sym, arith}
use Rattle.std.proofs.Math.Logic.{∥∥₁_elim}
use Rattle.std.proofs.lemmas.List.{get_or_append_left, get_or_at, length_push, take-append-le, take_at}
use Rattle.std.proofs.lemmas.Bool.{cases_eq}
use Rattle.std.proofs.lemmas.Bool.Decides.{nat_tests}
use Rattle.order.specs.Puts.{nothing, Order}
use Rattle.order.specs.Stored.{closure, leads, Stored}
use Rattle.order.specs.Ordered.{Free, order_nothing, order_prop, order_put}
use Rattle.semantics.specs.Closures.{And, chain, Chained, Listed, pair, Pairs}
use Rattle.semantics.specs.Orders.{Holds, put, Relation, Transitive}
use Rattle.semantics.specs.Closures.{put_all}
use Rattle.semantics.proofs.Closures.{chained_into, chained_put, chained_same, Joined}

-- pairs put one after the other: the smallest transitive relation with them all
put_all_chained : (P : Pairs) (R : Relation) (ps : List (ℕ × ℕ)) → ((x y : ℕ) → Holds R x y ↔ Chained P x y)
    → (x y : ℕ) → Holds (put_all R ps) x y ↔ Chained (Joined P ps) x y
put_all_chained P R [] same x y =
    (λ h. chained_same P (Joined P []) (λ u v m. inl m) ((same x y).0 h), λ h. (same x y).1 (chained_same (Joined P []) P (λ u v m. grind arith) h))
put_all_chained P R (p ∷ ps) same x y =
    let ih = put_all_chained (And P p.0 p.1) (put R p.0 p.1) ps (chained_put P R p.0 p.1 same) x y in (
      λ h. chained_same (Joined (And P p.0 p.1) ps) (Joined P (p ∷ ps)) (λ u v m. grind arith) (ih.0 h),
      λ h. ih.1 (chained_same (Joined P (p ∷ ps)) (Joined (And P p.0 p.1) ps) (λ u v m. grind arith) h),
    )

-- the set of no pairs
NoPair : Pairs
NoPair x y = ⊥

no_chain : (x y : ℕ) → Chained NoPair x y → ⊥
unfolding NoPair
no_chain x y h = chained_into NoPair (λ u v. ⊥) (λ u v k. k) (λ u v w k m. k) h

-- What follows from a list is the smallest transitive relation that holds its pairs.
pub closure_chained : (ps : List (ℕ × ℕ)) (x y : ℕ) → Holds (closure ps) x y ↔ Chained (λ u v. Listed u v ps) x y
unfolding closure NoPair
closure_chained ps x y =
    let all = put_all_chained NoPair nothing ps (λ u v. (λ h. let z : ⊥ = grind arith in absurd z, λ h. absurd (no_chain u v h))) x y in (
      λ h. chained_same (Joined NoPair ps) (λ u v. Listed u v ps) (λ u v m. grind arith) (all.0 h),
      λ h. all.1 (chained_same (λ u v. Listed u v ps) (Joined NoPair ps) (λ u v m. inr m) h),
    )

pub closure_transitive : (ps : List (ℕ × ℕ)) → Transitive (closure ps)
closure_transitive ps x y z h k = (closure_chained ps x z).1 (chain ((closure_chained ps x y).0 h) ((closure_chained ps y z).0 k))

pub closure_has : (ps : List (ℕ × ℕ)) (x y : ℕ) → Listed x y ps → Holds (closure ps) x y
closure_has ps x y h = (closure_chained ps x y).1 (pair h)

pub closure_least : (ps : List (ℕ × ℕ)) (Q : Pairs) → ((x y : ℕ) → Listed x y ps → Q x y) → ((x y z : ℕ) → Q x y → Q y z → Q x z)
    → (x y : ℕ) → Holds (closure ps) x y → Q x y
closure_least ps Q sub tr x y h = chained_into (λ u v. Listed u v ps) Q sub tr ((closure_chained ps x y).0 h)

-- the test for a pair of the list
pub leads_listed : (ps : List (ℕ × ℕ)) (x y : ℕ) → leads ps x y ≡ true → Listed x y ps
unfolding leads
leads_listed [] x y h = grind arith
leads_listed (p ∷ ps) x y h = let ih = leads_listed ps x y in grind (arith, nat_tests)

pub listed_leads : (ps : List (ℕ × ℕ)) (x y : ℕ) → Listed x y ps → leads ps x y ≡ true
unfolding leads
listed_leads [] x y h = absurd h
listed_leads (p ∷ ps) x y h = let ih = listed_leads ps x y in grind (arith, nat_tests)

pub listed_at : (ps : List (ℕ × ℕ)) (j : ℕ) → j < length ps → Listed (slice_index_or ps j (0, 0)).0 (slice_index_or ps j (0, 0)).1 ps
listed_at [] j h = let z : ⊥ = omega arith in absurd z
listed_at (p ∷ ps) zero h = inl (refl, refl)
listed_at (p ∷ ps) (suc j) h = inr (listed_at ps j (omega arith))

pub closure_at : (ps : List (ℕ × ℕ)) (j : ℕ) → j < length ps → Holds (closure ps) (slice_index_or ps j (0, 0)).0 (slice_index_or ps j (0, 0)).1
closure_at ps j h = closure_has ps _ _ (listed_at ps j h)

-- one pair more
put_all_push : (ps : List (ℕ × ℕ)) (R : Relation) (p : ℕ × ℕ) → put_all R (ps ++ p ∷ []) ≡ put (put_all R ps) p.0 p.1
put_all_push [] R p = refl
put_all_push (q ∷ ps) R p = put_all_push ps (put R q.0 q.1) p

pub closure_push : (ps : List (ℕ × ℕ)) (p : ℕ × ℕ) → closure (ps ++ p ∷ []) ≡ put (closure ps) p.0 p.1
unfolding closure
closure_push ps p = put_all_push ps nothing p

pub closure_none : closure [] ≡ nothing
unfolding closure
closure_none = refl

stored_prop : (n : ℕ) (ps : List (ℕ × ℕ)) → IsProp (Stored n ps)
stored_prop n ps o p i = record {
  order = order_prop n (closure ps) o.order p.order i;
  fresh = λ j h. Bool-set (closure (take j ps) (slice_index_or ps j (0, 0)).0 (slice_index_or ps j (0, 0)).1) false (o.fresh j h) (p.fresh j h) i;
}

pub stored_from : (n : ℕ) (ps : List (ℕ × ℕ)) → ∥ Stored n ps ∥₁ → Stored n ps
stored_from n ps o = ∥∥₁_elim o (stored_prop n ps) (λ x. x)

pub stored_none : (n : ℕ) → Stored n []
stored_none n = record {
  order = subst (λ (R : Relation). Order n R) (sym closure_none) (order_nothing n);
  fresh = λ j h. let z : ⊥ = omega arith in absurd z;
}

module _ (n : ℕ) (ps : List (ℕ × ℕ)) (s : Stored n ps) (a b : ℕ) (f : Free n (closure ps) a b) (new : closure ps a b ≡ false) where
  fresh_at : (j : ℕ) → j < length ps + 1 → (j ≡ length ps) ⊎ (j ≢ length ps)
      → closure (take j (ps ++ (a, b) ∷ [])) (slice_index_or (ps ++ (a, b) ∷ []) j (0, 0)).0 (slice_index_or (ps ++ (a, b) ∷ []) j (0, 0)).1 ≡ false
  fresh_at j h (inl e) =
      ap (λ (q : ℕ × ℕ). closure (take j (ps ++ (a, b) ∷ [])) q.0 q.1) (get_or_at ps (a, b) [] (0, 0) j (sym e))
      ∙ ap (λ (l : List (ℕ × ℕ)). closure l a b) (take_at ps ((a, b) ∷ []) j (sym e)) ∙ new
  fresh_at j h (inr e) =
      let l : j < length ps = omega arith in
      let m : j ≤ length ps = omega arith in
      ap (λ (q : ℕ × ℕ). closure (take j (ps ++ (a, b) ∷ [])) q.0 q.1) (get_or_append_left ps ((a, b) ∷ []) (0, 0) j l)
      ∙ ap (λ (k : List (ℕ × ℕ)). closure k (slice_index_or ps j (0, 0)).0 (slice_index_or ps j (0, 0)).1) (take-append-le j ps ((a, b) ∷ []) m) ∙ s.fresh j l

  pub stored_push : Stored n (ps ++ (a, b) ∷ [])
  stored_push = record {
    order = subst (λ (R : Relation). Order n R) (sym (closure_push ps (a, b))) (order_put n (closure ps) a b s.order f);
    fresh = λ j h. fresh_at j (subst (λ (k : ℕ). j < k) (length_push ps (a, b)) h) (cases_eq j (length ps));
  }
