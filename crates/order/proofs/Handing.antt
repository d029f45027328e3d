-- What an iterator has left to hand out, and what becomes of it.
use Rattle.std.proofs.Common.{◌≡◌, List, [], ◌∷◌, Some, None, Option, ap, ◌∙◌}
use Rattle.std.specs.Iterator.{AlwaysYields}

module _ {S A B C : Type 0} (steps : S → Option A → S → Type 0) (after : B → List A → C) where
  -- where all that s has left is added to b, the outcome is `all`
  pub record Left (s : S) (b : B) (all : C) : Type 0 where
    pub items : List A
    pub yields : AlwaysYields steps {B = A} (λ x. x) s items
    pub same : after b items ≡ all

  -- the same where x is the next of it
  pub record Then (t : S) (x : A) (b : B) (all : C) : Type 0 where
    pub items : List A
    pub yields : AlwaysYields steps {B = A} (λ y. y) t items
    pub same : after b (x ∷ items) ≡ all

  module _ (s t : S) (b : B) (all : C) where
    pub left_then : (x : A) → Left s b all → steps s (Some x) t → Then t x b all
    left_then x l h = at l.items l.yields l.same
      where
        at : (xs : List A) → AlwaysYields steps {B = A} (λ y. y) s xs → after b xs ≡ all → Then t x b all
        at [] y e = absurd (y x t h)
        at (z ∷ zs) y e = record { items = zs; yields = (y.1 x t h).1; same = ap (λ (k : A). after b (k ∷ zs)) (y.1 x t h).0 ∙ e }

    pub left_none : Left s b all → steps s None t → after b [] ≡ all
    left_none l h = at l.items l.yields l.same
      where
        at : (xs : List A) → AlwaysYields steps {B = A} (λ y. y) s xs → after b xs ≡ all → after b [] ≡ all
        at [] y e = e
        at (z ∷ zs) y e = absurd (y.0 t h)
