-- An order copied pair by pair.
use Rattle.std.proofs.Common.{◌≡◌, ℕ, ◌+◌, ◌<◌, Bool, true, false, cond, ◌⊎◌, sym, ◌∙◌, subst, inl, inr, ⊎_elim, arith}
use Rattle.std.proofs.lemmas.Bool.{both_ways, cases_lt, cond-true}
use Rattle.order.specs.Copies.{RowCopied, Within}
use Rattle.order.specs.Puts.{can_put, Order}
use Rattle.order.specs.Ordered.{Free, free_put}
use Rattle.semantics.specs.Orders.{Holds, put, Relation}
use Rattle.semantics.proofs.Orders.{put_smallest}

-- a pair of an order is not refused where no more than that order is kept
pub free_within : (n : ℕ) (R S : Relation) (a b : ℕ) → Order n R → Within S R → Holds R a b → Free n S a b
free_within n R S a b o sub h = record {
  low = (o.within a b h).0;
  high = (o.within a b h).1;
  apart = λ e. o.strict.never_itself a (subst (λ (k : ℕ). Holds R a k) (sym e) h);
  not_back = λ k. o.strict.never_itself a (o.strict.passes_on a b a h (sub b a k));
}

module _ (n : ℕ) (R S : Relation) (a b : ℕ) (o : Order n R) (T : Relation) (r : RowCopied R S a b T) where
  -- the pair (a, b) is none of the order
  pub row_skip : R a b ≡ false → RowCopied R S a (b + 1) T
  row_skip no_pair = record {
    within = r.within;
    keeps = r.keeps;
    row = λ y l h. r.row y (below y l (λ e. both_ways (R a b) no_pair (subst (λ (v : ℕ). Holds R a v) e h))) h;
  }
    where
      below : (y : ℕ) → y < b + 1 → (y ≡ b → ⊥) → y < b
      below y l d = omega arith

  -- it is one, and is put
  pub row_put : (U : Relation) (ok : Bool) → Order n T → Holds R a b → ok ≡ can_put n T a b → U ≡ cond ok (put T a b) T → RowCopied R S a (b + 1) U
  row_put U ok t h test after =
      let taken : ok ≡ true = test ∙ free_put n T a b (free_within n R T a b o r.within h) in
      let is : U ≡ put T a b = after ∙ cond-true ok (put T a b) T taken in
      let m = put_smallest T a b t.strict.passes_on in
      subst (λ (Q : Relation). RowCopied R S a (b + 1) Q) (sym is) record {
        within = m.no_more R r.within h o.strict.passes_on;
        keeps = λ x y k. m.keeps x y (r.keeps x y k);
        row = λ y l k. ⊎_elim (λ w. m.keeps a y (r.row y w k)) (λ e. subst (λ (v : ℕ). Holds (put T a b) a v) (sym e) m.has) (cases y l);
      }
    where
      cases : (y : ℕ) → y < b + 1 → (y < b) ⊎ (y ≡ b)
      cases y l = ⊎_elim inl (λ k. inr (omega arith)) (cases_lt y b)

-- S holds no more than R, and the rows of R below a
pub record RowsCopied (R : Relation) (a : ℕ) (S : Relation) : Type 0 where
  pub within : Within S R
  pub rows : (x y : ℕ) → x < a → Holds R x y → Holds S x y
