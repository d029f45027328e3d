-- No more things than places.
use Rattle.std.proofs.Common.{◌≡◌, ℕ, zero, suc, ◌<◌, ◌≤◌, cond, eqb, ◌⊎◌, sym, ◌∙◌, subst, inl, inr, suc-le-suc, zero-le, arith}
use Rattle.std.proofs.lemmas.Bool.{cases_eq, cond-true, cond-false, eq-eqb, ne_eqb}

-- f with the value m moved to k
moved : (f : ℕ → ℕ) (m k : ℕ) → ℕ → ℕ
moved f m k i = cond (eqb (f i) m) k (f i)

moved_is : (f : ℕ → ℕ) (m k i : ℕ) → (f i ≡ m) ⊎ (f i ≡ m → ⊥)
    → ((moved f m k i ≡ k) × (f i ≡ m)) ⊎ ((moved f m k i ≡ f i) × (f i ≡ m → ⊥))
unfolding moved
moved_is f m k i (inl e) = inl (cond-true (eqb (f i) m) _ _ (eq-eqb (f i) m e), e)
moved_is f m k i (inr n) = inr (cond-false (eqb (f i) m) _ _ (ne_eqb (f i) m n), n)

moved_cases : (f : ℕ → ℕ) (m k i : ℕ) → ((moved f m k i ≡ k) × (f i ≡ m)) ⊎ ((moved f m k i ≡ f i) × (f i ≡ m → ⊥))
moved_cases f m k i = moved_is f m k i (cases_eq (f i) m)

-- n things in m places, no two in one
pub pigeons : (m n : ℕ) (f : ℕ → ℕ) → ((i : ℕ) → i < n → f i < m) → ((i j : ℕ) → i < j → j < n → f i ≡ f j → ⊥) → n ≤ m
pigeons m zero f low apart = zero-le
pigeons zero (suc n) f low apart = let h = low 0 (omega arith) in omega arith
pigeons (suc m) (suc n) f low apart = suc-le-suc (pigeons m n (moved f m (f n)) low' apart')
  where
    low_at : (i : ℕ) → i < n → ((moved f m (f n) i ≡ f n) × (f i ≡ m)) ⊎ ((moved f m (f n) i ≡ f i) × (f i ≡ m → ⊥)) → moved f m (f n) i < m
    low_at i h (inl e) =
        let ne : f n ≡ m → ⊥ = λ q. apart i n h (omega arith) (e.1 ∙ sym q) in
        let l = low n (omega arith) in
        subst (λ (k : ℕ). k < m) (sym e.0) (omega arith)
    low_at i h (inr e) =
        let ne = e.1 in
        let l = low i (omega arith) in
        subst (λ (k : ℕ). k < m) (sym e.0) (omega arith)

    low' : (i : ℕ) → i < n → moved f m (f n) i < m
    low' i h = low_at i h (moved_cases f m (f n) i)

    apart_at : (i j : ℕ) → i < j → j < n
        → ((moved f m (f n) i ≡ f n) × (f i ≡ m)) ⊎ ((moved f m (f n) i ≡ f i) × (f i ≡ m → ⊥))
        → ((moved f m (f n) j ≡ f n) × (f j ≡ m)) ⊎ ((moved f m (f n) j ≡ f j) × (f j ≡ m → ⊥))
        → moved f m (f n) i ≡ moved f m (f n) j → ⊥
    apart_at i j l h (inl p) (inl q) e = apart i j l (omega arith) (p.1 ∙ sym q.1)
    apart_at i j l h (inl p) (inr q) e = apart j n h (omega arith) (sym q.0 ∙ sym e ∙ p.0)
    apart_at i j l h (inr p) (inl q) e = apart i n (omega arith) (omega arith) (sym p.0 ∙ e ∙ q.0)
    apart_at i j l h (inr p) (inr q) e = apart i j l (omega arith) (sym p.0 ∙ e ∙ q.0)

    apart' : (i j : ℕ) → i < j → j < n → moved f m (f n) i ≡ moved f m (f n) j → ⊥
    apart' i j l h = apart_at i j l h (moved_cases f m (f n) i) (moved_cases f m (f n) j)
