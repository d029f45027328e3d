-- The first places of a list.
use Rattle.std.proofs.Common.{◌≡◌, ℕ, zero, suc, ◌<◌, List, [], ◌∷◌, take, set, refl, ap, arith}

module _ {T : Type 0} where
  -- a change among the first n
  pub front_set : (xs : List T) (n i : ℕ) (x : T) → i < n → take n (set xs i x) ≡ set (take n xs) i x
  front_set xs zero i x h = absurd (omega arith)
  front_set [] (suc n) i x h = refl
  front_set (y ∷ xs) (suc n) zero x h = refl
  front_set (y ∷ xs) (suc n) (suc i) x h = ap (λ ys. y ∷ ys) (front_set xs n i x (omega arith))
