-- Pairs put one after the other give the smallest transitive relation that holds them all.
use Rattle.std.proofs.Common.{◌≡◌, ℕ, Bool, true, false, ◌||◌, eqb, ◌⊎◌, ◌↔◌, List, [], ◌∷◌, Some, None, sym, refl, subst, inl, inr, ⊎_elim, arith}
use Rattle.std.proofs.lemmas.Bool.{eqb-true, or_cases}
use Rattle.std.proofs.lemmas.Bool.Decides.{nat_tests}
use Rattle.semantics.specs.Closures.{And, chain, Chained, Listed, pair, Pairs, try_all, try_put}
use Rattle.semantics.specs.Orders.{Holds, put, Relation, Strict}
use Rattle.semantics.proofs.Orders.{put_cases, put_new, put_old, put_smallest, put_strict}

pub chained_into : (P : Pairs) (Q : Pairs) → ((x y : ℕ) → P x y → Q x y) → ((x y z : ℕ) → Q x y → Q y z → Q x z) → {x y : ℕ} → Chained P x y → Q x y
chained_into P Q sub tr {x} {y} (pair h) = sub x y h
chained_into P Q sub tr {x} {y = z} (chain {b = y} h k) = tr x y z (chained_into P Q sub tr h) (chained_into P Q sub tr k)

pub chained_put : (P : Pairs) (R : Relation) (a b : ℕ) → ((x y : ℕ) → Holds R x y ↔ Chained P x y) → (x y : ℕ) → Holds (put R a b) x y ↔ Chained (And P a b) x y
chained_put P R a b same x y = (there, back)
  where
    up : (u v : ℕ) → Holds R u v → Chained (And P a b) u v
    up u v h = chained_into P (Chained (And P a b)) (λ s t k. pair (inl k)) (λ s t w k m. chain k m) ((same u v).0 h)

    end : Chained (And P a b) a b
    end = pair (inr (refl, refl))

    lead : (x ≡ a) ⊎ Holds R x a → Chained (And P a b) x b
    lead (inl e) = subst (λ (u : ℕ). Chained (And P a b) u b) (sym e) end
    lead (inr h) = chain (up x a h) end

    whole : ((x ≡ a) ⊎ Holds R x a) × ((b ≡ y) ⊎ Holds R b y) → Chained (And P a b) x y
    whole t = ⊎_elim (λ e. subst (λ (u : ℕ). Chained (And P a b) x u) e (lead t.0)) (λ h. chain (lead t.0) (up b y h)) t.1

    there : Holds (put R a b) x y → Chained (And P a b) x y
    there h = ⊎_elim (up x y) whole (put_cases R a b x y h)

    tr : (u v w : ℕ) → Holds R u v → Holds R v w → Holds R u w
    tr u v w h k = (same u w).1 (chain ((same u v).0 h) ((same v w).0 k))

    back : Chained (And P a b) x y → Holds (put R a b) x y
    back = chained_into (And P a b) (Holds (put R a b))
        (λ u v h. ⊎_elim (λ k. put_old R a b u v ((same u v).1 (pair k))) (λ e. put_new R a b u v (inl e.0) (inl (sym e.1))) h)
        (put_smallest R a b tr).passes_on

pub chained_same : (P Q : Pairs) → ((x y : ℕ) → P x y → Q x y) → {x y : ℕ} → Chained P x y → Chained Q x y
chained_same P Q sub h = chained_into P (Chained Q) (λ u v k. pair (sub u v k)) (λ u v w k m. chain k m) h

-- the pairs of P, and those of a list
abbrev pub Joined : Pairs → List (ℕ × ℕ) → Pairs
Joined P ps x y = P x y ⊎ Listed x y ps

pub try_all_none : (ps : List (ℕ × ℕ)) (S : Relation) → try_all None ps ≡ Some S → ⊥
try_all_none ps S e = grind arith

-- a pair that is not refused: its steps differ, and the second is not before the first
apart : (a b : ℕ) (back : Bool) → (eqb a b || back) ≡ false → a ≡ b → ⊥
apart a b back t e = grind (arith, nat_tests)

not_back : (a b : ℕ) (back : Bool) → (eqb a b || back) ≡ false → back ≡ true → ⊥
not_back a b back t e = grind (arith, nat_tests)

-- Where no put is refused, the relation at the end is strict, and the smallest transitive one with all the pairs.
pub try_all_chained : (P : Pairs) (R S : Relation) (ps : List (ℕ × ℕ)) → Strict R → ((x y : ℕ) → Holds R x y ↔ Chained P x y) → try_all (Some R) ps ≡ Some S
    → Strict S × ((x y : ℕ) → Holds S x y ↔ Chained (Joined P ps) x y)
try_all_chained P R S [] strict same e =
    let q : R ≡ S = cc in
    let same' : (x y : ℕ) → Holds S x y ↔ Chained P x y = subst (λ (Q : Relation). (x y : ℕ) → Holds Q x y ↔ Chained P x y) q same in
    (subst Strict q strict, λ x y. (λ h. chained_same P (Joined P []) (λ u v m. inl m) ((same' x y).0 h), λ h. (same' x y).1 (chained_same (Joined P []) P (λ u v m. grind arith) h)))
try_all_chained P R S (ab ∷ abs) strict same e = at (eqb ab.0 ab.1 || R ab.1 ab.0) refl e
    (λ s sm k. try_all_chained (And P ab.0 ab.1) (put R ab.0 ab.1) S abs s sm k)
  where
    at : (b : Bool) → (eqb ab.0 ab.1 || R ab.1 ab.0) ≡ b → try_all (try_put R ab.0 ab.1 b) abs ≡ Some S
        → (Strict (put R ab.0 ab.1) → ((x y : ℕ) → Holds (put R ab.0 ab.1) x y ↔ Chained (And P ab.0 ab.1) x y) → try_all (Some (put R ab.0 ab.1)) abs ≡ Some S
        → Strict S × ((x y : ℕ) → Holds S x y ↔ Chained (Joined (And P ab.0 ab.1) abs) x y))
        → Strict S × ((x y : ℕ) → Holds S x y ↔ Chained (Joined P (ab ∷ abs)) x y)
    at true t k ih = absurd (try_all_none abs S k)
    at false t k ih =
        let r = ih (put_strict R ab.0 ab.1 strict (apart ab.0 ab.1 (R ab.1 ab.0) t) (not_back ab.0 ab.1 (R ab.1 ab.0) t)) (chained_put P R ab.0 ab.1 same) k in (
          r.0,
          λ x y. (
            λ h. chained_same (Joined (And P ab.0 ab.1) abs) (Joined P (ab ∷ abs)) (λ u v m. grind arith) ((r.1 x y).0 h),
            λ h. (r.1 x y).1 (chained_same (Joined P (ab ∷ abs)) (Joined (And P ab.0 ab.1) abs) (λ u v m. grind arith) h),
          ),
        )

-- Where a put is refused, the smallest transitive relation with all the pairs has some step before itself.
pub try_all_refused : (P : Pairs) (R : Relation) (ps : List (ℕ × ℕ)) → ((x y : ℕ) → Holds R x y ↔ Chained P x y) → try_all (Some R) ps ≡ None
    → (x : ℕ) × Chained (Joined P ps) x x
try_all_refused P R [] same e = let z : ⊥ = grind arith in absurd z
try_all_refused P R (ab ∷ abs) same e = at (eqb ab.0 ab.1 || R ab.1 ab.0) refl e
    (λ sm k. try_all_refused (And P ab.0 ab.1) (put R ab.0 ab.1) abs sm k)
  where
    at : (b : Bool) → (eqb ab.0 ab.1 || R ab.1 ab.0) ≡ b → try_all (try_put R ab.0 ab.1 b) abs ≡ None
        → (((x y : ℕ) → Holds (put R ab.0 ab.1) x y ↔ Chained (And P ab.0 ab.1) x y) → try_all (Some (put R ab.0 ab.1)) abs ≡ None
        → (x : ℕ) × Chained (Joined (And P ab.0 ab.1) abs) x x)
        → (x : ℕ) × Chained (Joined P (ab ∷ abs)) x x
    at true t k ih = ⊎_elim
        (λ q. (ab.0, pair (inr (inl (refl, eqb-true ab.0 ab.1 q)))))
        (λ h. (ab.0, chain (pair (inr (inl (refl, refl)))) (chained_same P (Joined P (ab ∷ abs)) (λ u v m. inl m) ((same ab.1 ab.0).0 h))))
        (or_cases (eqb ab.0 ab.1) (R ab.1 ab.0) t)
    at false t k ih =
        let r = ih (chained_put P R ab.0 ab.1 same) k in
        (r.0, chained_same (Joined (And P ab.0 ab.1) abs) (Joined P (ab ∷ abs)) (λ u v m. grind arith) r.1)
