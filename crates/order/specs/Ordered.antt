-- Strict orders between the numbers below a capacity: what keeps them, and that to be one is a fact.
use Rattle.std.specs.Prelude.{◌≡◌, ℕ, ◌<◌, ◌≤◌, true, false}
use Rattle.std.proofs.Math.Bool.{Bool-set}
use Rattle.std.proofs.Math.Logic.{∥∥₁_elim}
use Rattle.std.proofs.Math.Path.{fun_ext}
use Rattle.std.proofs.Common.{subst, sym, arith}
use Rattle.std.proofs.Math.Bridge.{le_prop}
use Rattle.std.proofs.lemmas.Bool.Decides.{nat_tests}
use Rattle.order.specs.Puts.{can_put, nothing, Order}
use Rattle.semantics.specs.Orders.{dropped, Holds, put, Relation, Smallest}
use Rattle.semantics.proofs.Orders.{is_false, put_cases, put_smallest, put_strict}

-- relations that answer alike are equal
pub same_relation : (R S : Relation) → ((x y : ℕ) → R x y ≡ S x y) → R ≡ S
same_relation R S e = fun_ext (λ x. fun_ext (λ y. e x y))

pub same_pairs : (R S : Relation) → ((x y : ℕ) → Holds R x y → Holds S x y) → ((x y : ℕ) → Holds S x y → Holds R x y) → R ≡ S
same_pairs R S there back = same_relation R S (λ x y. let h = there x y in let k = back x y in grind arith)

-- what a pair that is not refused brings
pub record Free (n : ℕ) (R : Relation) (a b : ℕ) : Type 0 where
  pub low : a < n
  pub high : b < n
  pub apart : a ≡ b → ⊥
  pub not_back : Holds R b a → ⊥

pub free_from : (n : ℕ) (R : Relation) (a b : ℕ) → can_put n R a b ≡ true → Free n R a b
free_from n R a b h = record {
  low = grind (arith, nat_tests);
  high = grind (arith, nat_tests);
  apart = λ e. grind (arith, nat_tests);
  not_back = λ k. grind (arith, nat_tests);
}

pub free_put : (n : ℕ) (R : Relation) (a b : ℕ) → Free n R a b → can_put n R a b ≡ true
free_put n R a b f = let l = f.low in let h = f.high in let e = f.apart in let k = f.not_back in grind (arith, nat_tests)

pub order_nothing : (n : ℕ) → Order n nothing
order_nothing n = record {
  strict = record {
    never_itself = λ x h. grind arith;
    passes_on = λ x y z h k. h;
  };
  within = λ x y h. grind arith;
}

pub order_put : (n : ℕ) (R : Relation) (a b : ℕ) → Order n R → Free n R a b → Order n (put R a b)
order_put n R a b o f = record {
  strict = put_strict R a b o.strict f.apart f.not_back;
  within = λ x y h. let l = f.low in let m = f.high in grind (arith, put_cases R a b x y h, o.within x y, o.within x a, o.within b y);
}

pub order_dropped : (n : ℕ) (R : Relation) (s : ℕ) → Order n R → Order n (dropped R s)
order_dropped n R s o = record {
  strict = record {
    never_itself = λ x h. grind (arith, o.strict.never_itself x);
    passes_on = λ x y z h k. grind (arith, o.strict.passes_on x y z);
  };
  within = λ x y h. o.within x y (grind arith);
}

-- a number that no pair has: to drop it changes nothing
pub dropped_past : (n : ℕ) (R : Relation) (s : ℕ) → Order n R → n ≤ s → R ≡ dropped R s
dropped_past n R s o l = same_relation R (dropped R s) (λ x y. grind (arith, nat_tests, o.within x y))

-- nothing past the capacity is before another
pub past_false : (n : ℕ) (R : Relation) (a b : ℕ) → Order n R → (a < n → b < n → ⊥) → R a b ≡ false
past_false n R a b o l = is_false (R a b) (λ h. let w = o.within a b h in l w.0 w.1)

no_prop : (p q : ⊥) → p ≡ q
no_prop p q = absurd p

-- that a relation is such an order is a fact: a struct can hold it, truncated, and it comes out again
pub order_prop : (n : ℕ) (R : Relation) → IsProp (Order n R)
order_prop n R o p i = record {
  strict = record {
    never_itself = λ x h. no_prop (o.strict.never_itself x h) (p.strict.never_itself x h) i;
    passes_on = λ x y z h k. Bool-set (R x z) true (o.strict.passes_on x y z h k) (p.strict.passes_on x y z h k) i;
  };
  within = λ x y h. (le_prop (o.within x y h).0 (p.within x y h).0 i, le_prop (o.within x y h).1 (p.within x y h).1 i);
}

pub order_from : (n : ℕ) (R : Relation) → ∥ Order n R ∥₁ → Order n R
order_from n R o = ∥∥₁_elim o (order_prop n R) (λ x. x)

-- a pair that is there already
pub put_already : (R : Relation) (a b : ℕ) → ((x y z : ℕ) → Holds R x y → Holds R y z → Holds R x z) → Holds R a b → R ≡ put R a b
put_already R a b tr h = same_pairs R (put R a b)
    (λ x y k. (put_smallest R a b tr).keeps x y k)
    (λ x y k. (put_smallest R a b tr).no_more R (λ u v m. m) h tr x y k)

-- whatever relation is the put is the smallest
pub smallest_is : (R S : Relation) (a b : ℕ) → ((x y z : ℕ) → Holds R x y → Holds R y z → Holds R x z) → S ≡ put R a b → Smallest R a b S
smallest_is R S a b tr e = subst (λ (Q : Relation). Smallest R a b Q) (sym e) (put_smallest R a b tr)
