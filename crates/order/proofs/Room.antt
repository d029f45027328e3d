-- A list of pairs that makes an order on 32 steps, each fresh, has at most 496.
use Rattle.std.proofs.Common.{◌≡◌, ℕ, zero, suc, ◌+◌, ◌<◌, ◌≤◌, true, false, cond, ltb, ◌⊎◌, List, length, get_or, take, sym, refl, ap, ◌∙◌, subst, inl, inr, arith}
use Rattle.std.proofs.lemmas.List.{get_or-take, length-take-le}
use Rattle.std.proofs.lemmas.Bool.{cases_order, cond-true, cond-false, lt-ltb, le-ltb, both_ways}
use Rattle.order.specs.Stored.{closure, Stored}
use Rattle.order.specs.Lists.{closure_at}
use Rattle.order.proofs.Pigeons.{pigeons}

-- how many pairs x < y have y below n
tri : ℕ → ℕ
tri zero = 0
tri (suc n) = tri n + n

tri_by : (w y : ℕ) → (y < w → tri y + y ≤ tri w) → y < suc w → (y ≡ w) ⊎ ((y < w) ⊎ (w < y)) → tri y + y ≤ tri w + w
tri_by w y rest h (inl e) = subst (λ (k : ℕ). tri k + k ≤ tri w + w) (sym e) (omega arith)
tri_by w y rest h (inr (inl l)) = let k = rest l in omega arith
tri_by w y rest h (inr (inr l)) = omega arith

tri_step : (z y : ℕ) → y < z → tri y + y ≤ tri z
unfolding tri
tri_step zero y h = omega arith
tri_step (suc w) y h = tri_by w y (tri_step w y) h (cases_order y w)

-- the place of the pair, whichever of its numbers is the larger
code : ℕ → ℕ → ℕ
code x y = cond (ltb x y) (tri y + x) (tri x + y)

-- lo and hi are x and y in order
Sorted : ℕ → ℕ → ℕ → ℕ → Type 0
Sorted x y lo hi = ((x ≡ lo) × (y ≡ hi)) ⊎ ((x ≡ hi) × (y ≡ lo))

code_at : (x y : ℕ) → (x ≡ y → ⊥) → (x ≡ y) ⊎ ((x < y) ⊎ (y < x)) → (lo : ℕ) × (hi : ℕ) × (lo < hi) × (code x y ≡ tri hi + lo) × Sorted x y lo hi
unfolding code Sorted
code_at x y ne (inl e) = absurd (ne e)
code_at x y ne (inr (inl l)) = (x, y, l, cond-true (ltb x y) _ _ (lt-ltb x y l), inl (refl, refl))
code_at x y ne (inr (inr l)) = (y, x, l, cond-false (ltb x y) _ _ (le-ltb x y (omega arith)), inr (refl, refl))

same_code : (lo hi lo' hi' : ℕ) → lo < hi → lo' < hi' → tri hi + lo ≡ tri hi' + lo' → (hi ≡ hi') ⊎ ((hi < hi') ⊎ (hi' < hi)) → (lo ≡ lo') × (hi ≡ hi')
same_code lo hi lo' hi' l l' e (inl h) =
    let t : tri hi ≡ tri hi' = ap tri h in
    (omega arith, h)
same_code lo hi lo' hi' l l' e (inr (inl h)) = let k = tri_step hi' hi h in let z : ⊥ = omega arith in absurd z
same_code lo hi lo' hi' l l' e (inr (inr h)) = let k = tri_step hi hi' h in let z : ⊥ = omega arith in absurd z

same_pair : (x y u v lo hi : ℕ) → Sorted x y lo hi → Sorted u v lo hi → ((x ≡ u) × (y ≡ v)) ⊎ ((x ≡ v) × (y ≡ u))
unfolding Sorted
same_pair x y u v lo hi (inl p) (inl q) = inl (p.0 ∙ sym q.0, p.1 ∙ sym q.1)
same_pair x y u v lo hi (inl p) (inr q) = inr (p.0 ∙ sym q.1, p.1 ∙ sym q.0)
same_pair x y u v lo hi (inr p) (inl q) = inr (p.0 ∙ sym q.1, p.1 ∙ sym q.0)
same_pair x y u v lo hi (inr p) (inr q) = inl (p.0 ∙ sym q.0, p.1 ∙ sym q.1)

code_same : (x y u v : ℕ) → (x ≡ y → ⊥) → (u ≡ v → ⊥) → code x y ≡ code u v → ((x ≡ u) × (y ≡ v)) ⊎ ((x ≡ v) × (y ≡ u))
code_same x y u v n m e =
    let p = code_at x y n (cases_order x y) in
    let q = code_at u v m (cases_order u v) in
    let s = same_code p.0 p.1 q.0 q.1 p.2 q.2 (sym p.3 ∙ e ∙ q.3) (cases_order p.1 q.1) in
    same_pair x y u v q.0 q.1 (subst (λ (k : ℕ). Sorted x y k q.1) s.0 (subst (λ (k : ℕ). Sorted x y p.0 k) s.1 p.4)) q.4

sorted_below : (x y lo hi : ℕ) → Sorted x y lo hi → x < 32 → y < 32 → hi < 32
unfolding Sorted
sorted_below x y lo hi (inl p) lx ly = subst (λ (k : ℕ). k < 32) p.1 ly
sorted_below x y lo hi (inr p) lx ly = subst (λ (k : ℕ). k < 32) p.0 lx

tri_32 : tri 32 ≡ 496
unfolding tri
tri_32 = refl

code_below : (x y : ℕ) → (x ≡ y → ⊥) → x < 32 → y < 32 → code x y < 496
code_below x y n lx ly =
    let p = code_at x y n (cases_order x y) in
    let t = tri_step 32 p.1 (sorted_below x y p.0 p.1 p.4 lx ly) in
    omega (arith, tri_32, p.2, p.3)

module _ (ps : List (ℕ × ℕ)) (s : Stored 32 ps) where
  left : ℕ → ℕ
  left j = (get_or ps j (0, 0)).0

  right : ℕ → ℕ
  right j = (get_or ps j (0, 0)).1

  here : (j : ℕ) → j < length ps → closure ps (left j) (right j) ≡ true
  unfolding left right
  here j h = closure_at ps j h

  differ : (j : ℕ) → j < length ps → left j ≡ right j → ⊥
  differ j h e = s.order.strict.never_itself (left j) (subst (λ (k : ℕ). closure ps (left j) k ≡ true) (sym e) (here j h))

  low : (j : ℕ) → j < length ps → code (left j) (right j) < 496
  low j h =
      let p = s.order.within (left j) (right j) (here j h) in
      code_below (left j) (right j) (differ j h) p.0 p.1

  early : (i j : ℕ) → i < j → j < length ps → closure (take j ps) (left i) (right i) ≡ true
  unfolding left right
  early i j l h =
      subst (λ (p : ℕ × ℕ). closure (take j ps) p.0 p.1 ≡ true) (get_or-take j ps i (0, 0) l)
      (closure_at (take j ps) i (subst (λ (k : ℕ). i < k) (sym (length-take-le j ps (omega arith))) l))

  late : (j : ℕ) → j < length ps → closure (take j ps) (left j) (right j) ≡ false
  unfolding left right
  late j h = s.fresh j h

  clash : (i j : ℕ) → i < j → j < length ps → ((left i ≡ left j) × (right i ≡ right j)) ⊎ ((left i ≡ right j) × (right i ≡ left j)) → ⊥
  clash i j l h (inl p) =
      both_ways (closure (take j ps) (left j) (right j)) (late j h)
      (subst (λ (k : ℕ). closure (take j ps) k (right j) ≡ true) p.0 (subst (λ (k : ℕ). closure (take j ps) (left i) k ≡ true) p.1 (early i j l h)))
  clash i j l h (inr p) =
      s.order.strict.never_itself (left i)
      (s.order.strict.passes_on (left i) (right i) (left i) (here i (omega arith))
      (subst (λ (k : ℕ). closure ps k (left i) ≡ true) (sym p.1) (subst (λ (k : ℕ). closure ps (left j) k ≡ true) (sym p.0) (here j h))))

  pub stored_room : length ps ≤ 496
  stored_room =
      pigeons 496 (length ps) (λ j. code (left j) (right j)) low
      (λ i j l h e. clash i j l h (code_same (left i) (right i) (left j) (right j) (differ i (omega arith)) (differ j h) e))

  -- both numbers of a pair are steps
  pub stored_small : (j : ℕ) → j < length ps → ((get_or ps j (0, 0)).0 < 32) × ((get_or ps j (0, 0)).1 < 32)
  unfolding left right
  stored_small j h = s.order.within (left j) (right j) (here j h)
