-- The numbers of present steps.
use Rattle.std.proofs.Common.{◌≡◌, ℕ, zero, suc, ◌+◌, ◌<◌, Bool, true, false, cond, ◌&&◌, List, [], ◌∷◌, length, filter, Some, None, Option, refl, ap, ◌∙◌, add-one, arith}
use mathlib.Core.Bool.{false≢true}
use Rattle.std.specs.List.{find, range_with_len}
use Rattle.semantics.specs.Causes.{first_such}
use Rattle.semantics.specs.OpenLines.{is_step}
use Rattle.semantics.specs.Plans.{present_from}

-- a present step has a number that was given
pub step_given : (os : List (Option ℕ)) (s : ℕ) → is_step os s ≡ true → s < length os
step_given [] s e = absurd (false≢true e)
step_given (o ∷ os) zero e = omega arith
step_given (o ∷ os) (suc s) e = let l = step_given os s e in omega arith

-- ---- the present steps are those of the numbers that are present

module _ (present : ℕ → Bool) where
  -- the steps os have the numbers from k on
  from : (k : ℕ) (os : List (Option ℕ)) → ((i : ℕ) → present (k + i) ≡ is_step os i) → filter present (range_with_len k (length os)) ≡ present_from k os
  from k [] h = refl
  from k (o ∷ os) h =
      let here : present k ≡ is_step (o ∷ os) 0 = ap present (let z : k ≡ k + 0 = omega arith in z) ∙ h 0 in
      let later : filter present (range_with_len (k + 1) (length os)) ≡ present_from (suc k) os =
      ap (λ n. filter present (range_with_len n (length os))) (add-one k) ∙ from (suc k) os (λ i. ap present (let z : suc k + i ≡ k + suc i = omega arith in z) ∙ h (suc i)) in
      ap (λ b. cond b (k ∷ filter present (range_with_len (k + 1) (length os))) (filter present (range_with_len (k + 1) (length os)))) here ∙ one o later
    where
      one : (o : Option ℕ) → filter present (range_with_len (k + 1) (length os)) ≡ present_from (suc k) os
          → cond (is_step (o ∷ os) 0) (k ∷ filter present (range_with_len (k + 1) (length os))) (filter present (range_with_len (k + 1) (length os))) ≡ present_from k (o ∷ os)
      one None e = e
      one (Some t) e = ap (λ xs. k ∷ xs) e

pub present_range : (os : List (Option ℕ)) → filter (is_step os) (range_with_len 0 (length os)) ≡ present_from 0 os
present_range os = from (is_step os) 0 os (λ i. ap (is_step os) (let z : 0 + i ≡ i = omega arith in z))

-- ---- two tests in one

module _ (p q : ℕ → Bool) where
  pub filter_both : (xs : List ℕ) → filter (λ x. p x && q x) xs ≡ filter q (filter p xs)
  filter_both [] = refl
  filter_both (x ∷ xs) = at (p x) (filter_both xs)
    where
      at : (b : Bool) → filter (λ y. p y && q y) xs ≡ filter q (filter p xs)
          → cond (b && q x) (x ∷ filter (λ y. p y && q y) xs) (filter (λ y. p y && q y) xs) ≡ filter q (cond b (x ∷ filter p xs) (filter p xs))
      at true e = ap (λ ys. cond (q x) (x ∷ ys) ys) e
      at false e = e

  find_both : (xs : List ℕ) → find (λ x. p x && q x) xs ≡ first_such q (filter p xs)
  find_both [] = refl
  find_both (x ∷ xs) = at (p x) (find_both xs)
    where
      at : (b : Bool) → find (λ y. p y && q y) xs ≡ first_such q (filter p xs) → cond (b && q x) (Some x) (find (λ y. p y && q y) xs) ≡ first_such q (cond b (x ∷ filter p xs) (filter p xs))
      at true e = ap (cond (q x) (Some x)) e
      at false e = e

pub first_step : (test : ℕ → Bool) (os : List (Option ℕ)) → find (λ x. is_step os x && test x) (range_with_len 0 (length os)) ≡ first_such test (present_from 0 os)
first_step test os = find_both (is_step os) test (range_with_len 0 (length os)) ∙ ap (first_such test) (present_range os)

pub present_steps : (test : ℕ → Bool) (os : List (Option ℕ)) → filter (λ x. is_step os x && test x) (range_with_len 0 (length os)) ≡ filter test (present_from 0 os)
present_steps test os = filter_both (is_step os) test (range_with_len 0 (length os)) ∙ ap (filter test) (present_range os)
