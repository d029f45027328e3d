-- Pairs put one by one.
use Rattle.std.proofs.Common.{◌≡◌, ℕ, Bool, true, false, cond, List, [], ◌∷◌, ◌++◌, sym, refl, ap, ◌∙◌}
use Rattle.order.specs.Puts.{can_put, put_each}
use Rattle.semantics.specs.Orders.{put, Relation}
use Rattle.decomposing.specs.Trying.{Tried}

-- ---- one list after another

-- what more pairs make of pairs that are put, if all of those are
abbrev then_each : ℕ → Bool × Relation → List (ℕ × ℕ) → Bool × Relation
then_each n q ys = cond q.0 (put_each n q.1 ys) q

each_append : (n : ℕ) (R : Relation) (xs ys : List (ℕ × ℕ)) → put_each n R (xs ++ ys) ≡ then_each n (put_each n R xs) ys
each_append n R [] ys = refl
each_append n R (x ∷ xs) ys = at (can_put n R x.0 x.1) (each_append n (put R x.0 x.1) xs ys)
  where
    at : (b : Bool) → put_each n (put R x.0 x.1) (xs ++ ys) ≡ then_each n (put_each n (put R x.0 x.1) xs) ys
        → cond b (put_each n (put R x.0 x.1) (xs ++ ys)) (false, R) ≡ then_each n (cond b (put_each n (put R x.0 x.1) xs) (false, R)) ys
    at true ih = ih
    at false ih = refl

module _ (n : ℕ) (R S : Relation) (xs ys : List (ℕ × ℕ)) where
  -- the first list is put, and then the second
  pub put_both : (ok : Bool) (U : Relation) → Tried n R xs true S → Tried n S ys ok U → Tried n R (xs ++ ys) ok U
  put_both ok U a b = b ∙ ap (λ (q : Bool × Relation). then_each n q ys) a ∙ sym (each_append n R xs ys)

  -- a pair of the first list is refused
  pub put_first : Tried n R xs false S → Tried n R (xs ++ ys) false S
  put_first a = ap (λ (q : Bool × Relation). then_each n q ys) a ∙ sym (each_append n R xs ys)
