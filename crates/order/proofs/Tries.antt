-- Pairs put one by one, with and without a capacity, and keepers that answer alike.
use Rattle.std.proofs.Common.{◌≡◌, ℕ, ◌+◌, ◌<◌, Bool, true, false, cond, not, ◌&&◌, ◌||◌, eqb, List, [], ◌∷◌, length, get_or, drop, is_ok, is_err, Some, None, Option, Ok, Err, Result, sym, refl, ap, ◌∙◌, subst, arith}
use mathlib.Core.Bool.{beq}
use Rattle.std.proofs.lemmas.List.{at_drop_more}
use Rattle.std.proofs.lemmas.Bool.{false≢true}
use Rattle.std.proofs.lemmas.Bool.Decides.{nat_tests}
use Rattle.order.specs.declared.keeper.Refused.{Refused}
use Rattle.order.proofs.Handing.{Left, left_then}
use Rattle.order.specs.Operations.{answered, LowPut, LowPuts, same_answers}
use Rattle.order.specs.Puts.{can_put, Low, put_each}
use Rattle.order.specs.declared.operation.Operation.{Operation}
use Rattle.order.specs.declared.operation.Operation.TheVariants.{Ask, DropStep, Put}
use Rattle.semantics.specs.Closures.{try_all, try_put}
use Rattle.semantics.specs.Orders.{put, Relation}

-- whether a put of numbers below the capacity is not refused
low_can : (n : ℕ) (R : Relation) (a b : ℕ) → a < n → b < n → can_put n R a b ≡ not (eqb a b || R b a)
low_can n R a b la lb = grind (arith, nat_tests)

-- Below the capacity, pairs put until one is refused are the pairs that `try_all` puts.
pub each_tries : (n : ℕ) (R : Relation) (ps : List (ℕ × ℕ)) → Low n ps
    → cond (put_each n R ps).0 (Some (put_each n R ps).1) None ≡ try_all (Some R) ps
each_tries n R [] l = refl
each_tries n R (p ∷ ps) l = by (eqb p.0 p.1 || R p.1 p.0) (can_put n R p.0 p.1) (low_can n R p.0 p.1 l.0 l.1) (each_tries n (put R p.0 p.1) ps l.2)
  where
    by : (t c : Bool) → c ≡ not t
        → cond (put_each n (put R p.0 p.1) ps).0 (Some (put_each n (put R p.0 p.1) ps).1) None ≡ try_all (Some (put R p.0 p.1)) ps
        → cond (cond c (put_each n (put R p.0 p.1) ps) (false, R)).0 (Some (cond c (put_each n (put R p.0 p.1) ps) (false, R)).1) None
        ≡ try_all (try_put R p.0 p.1 t) ps
    by true true e ih = grind arith
    by true false e ih = refl
    by false true e ih = ih
    by false false e ih = grind arith

-- what `put_all` promises of try_all
pub all_tries : (n : ℕ) (R S : Relation) (ok : Bool) (ps : List (ℕ × ℕ)) → (ok, S) ≡ put_each n R ps → Low n ps → cond ok (Some S) None ≡ try_all (Some R) ps
all_tries n R S ok ps e l = ap (λ (q : Bool × Relation). cond q.0 (Some q.1) None) e ∙ each_tries n R ps l

module _ {S : Type 0} (steps : S → Option (ℕ × ℕ) → S → Type 0) (n : ℕ) (s t : S) (R : Relation) (all : Bool × Relation) where
  -- a turn over the pairs: the pair is put
  pub put_more : (p : ℕ × ℕ) (U : Relation) → Left steps (put_each n) s R all → steps s (Some p) t → can_put n R p.0 p.1 ≡ true → U ≡ put R p.0 p.1 → Left steps (put_each n) t U all
  put_more p U l h ok is =
      let next = left_then steps (put_each n) s t R all p l h in
      record {
        items = next.items;
        yields = next.yields;
        same =
            ap (λ (V : Relation). put_each n V next.items) is
            ∙ sym (ap (λ b. cond b (put_each n (put R p.0 p.1) next.items) (false, R)) ok) ∙ next.same;
      }

  -- or it is refused
  pub put_stop : (p : ℕ × ℕ) → Left steps (put_each n) s R all → steps s (Some p) t → can_put n R p.0 p.1 ≡ false → (false, R) ≡ all
  put_stop p l h bad =
      let next = left_then steps (put_each n) s t R all p l h in
      sym (ap (λ b. cond b (put_each n (put R p.0 p.1) next.items) (false, R)) bad) ∙ next.same

pub err_not_ok : (r : Result (Unit {0}) Refused) → is_err r ≡ true → is_ok r ≡ false
err_not_ok (Ok v) h = absurd (false≢true h)
err_not_ok (Err e) h = refl

-- pairs of which one is refused, as a call's result says it
pub refused_as : (n : ℕ) (R S : Relation) (ps : List (ℕ × ℕ)) (r : Result (Unit {0}) Refused) → is_err r ≡ true → ◌≡◌ {A = Bool × Relation} (false, S) (put_each n R ps) → ◌≡◌ {A = Bool × Relation} (is_ok r, S) (put_each n R ps)
refused_as n R S ps r e t = ap (λ (b : Bool). (b, S)) (err_not_ok r e) ∙ t

alike_same : (b : Bool) → beq b b ≡ true
alike_same true = refl
alike_same false = refl

-- Keepers of one order and one capacity answer alike.
pub equal_alike : (n : ℕ) (R : Relation) (os : List Operation) → same_answers n n R R os ≡ true
equal_alike n R [] = refl
equal_alike n R (o ∷ os) = let here = alike_same (answered n R o).0 in let rest = equal_alike n (answered n R o).1 os in grind arith

pub same_capacity : (n m : ℕ) (R S : Relation) (os : List Operation) → n ≡ m → R ≡ S → same_answers n m R S os ≡ true
same_capacity n m R S os e f =
    subst (λ (k : ℕ). same_answers n k R S os ≡ true) e (subst (λ (Q : Relation). same_answers n n R Q os ≡ true) f (equal_alike n R os))

low_same : (n m : ℕ) (R : Relation) (o : Operation) → LowPut n o → LowPut m o → answered n R o ≡ answered m R o
low_same n m R (Put a b) l k =
    ap (λ (t : Bool). (t, cond t (put R a b) R)) (low_can n R a b l.0 l.1 ∙ sym (low_can m R a b k.0 k.1))
low_same n m R (DropStep a) l k = refl
low_same n m R (Ask a b) l k = refl

-- So do keepers of one order where every number that is put is below both capacities.
pub low_alike : (n m : ℕ) (R S : Relation) (os : List Operation) → LowPuts n os → LowPuts m os → R ≡ S → same_answers n m R S os ≡ true
low_alike n m R S [] l k f = refl
low_alike n m R S (o ∷ os) l k f =
    let e : answered n R o ≡ answered m S o = low_same n m R o l.0 k.0 ∙ ap (λ (Q : Relation). answered m Q o) f in
    let here : beq (answered n R o).0 (answered m S o).0 ≡ true = subst (λ (q : Bool × Relation). beq (answered n R o).0 q.0 ≡ true) e (alike_same (answered n R o).0) in
    let rest = low_alike n m (answered n R o).1 (answered m S o).1 os l.1 k.1 (ap (λ (q : Bool × Relation). q.1) e) in
    grind arith

-- one turn over the operations
module _ (n m : ℕ) (R S : Relation) (os : List Operation) (i : ℕ) (l : i < length os) (whole : Bool) (inv : same_answers n m R S (drop i os) ≡ whole)
    (b c : Bool) (R' S' : Relation) (one : (b, R') ≡ answered n R (get_or os i (Put 0 0))) (other : (c, S') ≡ answered m S (get_or os i (Put 0 0))) where
  asked : (beq b c && same_answers n m R' S' (drop (i + 1) os)) ≡ whole
  asked =
      ap (λ (q : Bool × Relation). beq q.0 c && same_answers n m q.1 S' (drop (i + 1) os)) one
      ∙ ap (λ (q : Bool × Relation). beq (answered n R (get_or os i (Put 0 0))).0 q.0 && same_answers n m (answered n R (get_or os i (Put 0 0))).1 q.1 (drop (i + 1) os)) other
      ∙ sym (at_drop_more (same_answers n m R S) os i (Put 0 0) l) ∙ inv

  pub agree_stop : not (beq b c) ≡ true → false ≡ whole
  agree_stop h = let a = asked in grind arith
