-- What the writes of the table do to its relation.
use Rattle.std.proofs.Common.{◌≡◌, ℕ, ◌-◌, ◌^◌, ◌<◌, ◌≤◌, Bool, true, false, cond, not, ◌&&◌, ◌||◌, eqb, ltb, List, length, get_or, replicate, sym, ap, ◌∙◌, subst, arith}
use lib.Bits.{bit_and, bit_or}
use Rattle.std.proofs.lemmas.List.{get_or-replicate}
use Rattle.std.proofs.lemmas.Bool.{lt-ltb}
use Rattle.std.proofs.lemmas.Bool.Decides.{nat_tests}
use Rattle.order.specs.Marks.{grown, marks, pruned}
use Rattle.masks.specs.Bits.{bit}
use Rattle.order.specs.Puts.{nothing, Order}
use Rattle.masks.proofs.Bits.{bit_clear, bit-or, bit_pow, bit_zero, or_turned}
use Rattle.order.specs.Ordered.{Free, order_dropped, order_nothing, order_put, same_relation}
use Rattle.semantics.specs.Orders.{dropped, Holds, put, Relation}

-- the rows below i are f of those of old, and the others are those of old
abbrev pub Mapped : (ℕ → ℕ → ℕ) → List ℕ → List ℕ → ℕ → Type 0
Mapped f old new i = (length new ≡ length old) × ((k : ℕ) → get_or new k 0 ≡ cond (ltb k i) (f k (get_or old k 0)) (get_or old k 0))

bit_joined : (t : Bool) (row after y : ℕ) → bit (cond t (bit_or row after) row) y ≡ (bit row y || (t && bit after y))
bit_joined true row after y = bit-or row after y
bit_joined false row after y = or_turned false (bit row y)

-- a row that has grown by b and what is after b
grown_bit : (a b x row after y : ℕ) → bit (grown a (bit_or after (2 ^ b)) x row) y ≡ (bit row y || ((eqb x a || bit row a) && (eqb b y || bit after y)))
grown_bit a b x row after y =
    bit_joined (eqb x a || bit row a) row (bit_or after (2 ^ b)) y
    ∙ ap (λ (c : Bool). bit row y || ((eqb x a || bit row a) && c)) (bit-or after (2 ^ b) y ∙ ap (λ (c : Bool). bit after y || c) (bit_pow b y) ∙ or_turned (bit after y) (eqb b y))

bit_cond_and : (t : Bool) (a row y : ℕ) → y < 64 → a < 64
    → bit (cond t 0 (bit_and row (2 ^ 64 - 1 - 2 ^ a))) y ≡ (bit row y && (not t && not (eqb y a)))
bit_cond_and true a row y l la = let z = bit_zero y in grind arith
bit_cond_and false a row y l la = bit_clear row a y la (λ _. l)

-- inside the table the relation is the bits
inside : (n : ℕ) (rows : List ℕ) (x y : ℕ) → x < n → y < n → marks n rows x y ≡ bit (get_or rows x 0) y
inside n rows x y lx ly = let a = lt-ltb x n lx in let b = lt-ltb y n ly in grind arith

-- outside it there is nothing
outside : (n : ℕ) (rows : List ℕ) (R : Relation) → ((x y : ℕ) → Holds R x y → (x < n) × (y < n)) → ((x y : ℕ) → x < n → y < n → marks n rows x y ≡ R x y) → marks n rows ≡ R
outside n rows R within same = same_relation (marks n rows) R (λ x y. let w = within x y in let s = same x y in grind (arith, nat_tests))

-- a new table
pub marks_none : (n : ℕ) → marks n (replicate n 0) ≡ nothing
marks_none n = outside n (replicate n 0) nothing (λ x y h. let z : ⊥ = grind arith in absurd z)
    (λ x y lx ly. inside n (replicate n 0) x y lx ly ∙ ap (λ (m : ℕ). bit m y) (get_or-replicate n x 0 0 lx) ∙ bit_zero y)

pub none_order : (n : ℕ) → Order n (marks n (replicate n 0))
none_order n = subst (λ (R : Relation). Order n R) (sym (marks_none n)) (order_nothing n)

-- a pair put
module _ (n : ℕ) (old new : List ℕ) (o : Order n (marks n old)) (a b : ℕ) (f : Free n (marks n old) a b)
    (after : ℕ) (joined : after ≡ bit_or (get_or old b 0) (2 ^ b)) (is : (x : ℕ) → x < n → get_or new x 0 ≡ grown a after x (get_or old x 0)) where
  at_put : (x y : ℕ) → x < n → y < n → marks n new x y ≡ put (marks n old) a b x y
  at_put x y lx ly =
      let e : bit (get_or new x 0) y ≡ (bit (get_or old x 0) y || ((eqb x a || bit (get_or old x 0) a) && (eqb b y || bit (get_or old b 0) y))) =
      ap (λ (k : ℕ). bit k y) (is x lx ∙ ap (λ (m : ℕ). grown a m x (get_or old x 0)) joined) ∙ grown_bit a b x (get_or old x 0) (get_or old b 0) y in
      let m = inside n new x y lx ly in
      let p = inside n old x y lx ly in
      let q = inside n old x a lx f.low in
      let r = inside n old b y f.high ly in
      cc

  pub marks_put : marks n new ≡ put (marks n old) a b
  marks_put = outside n new (put (marks n old) a b) (order_put n (marks n old) a b o f).within at_put

  pub marks_put_order : Order n (marks n new)
  marks_put_order = subst (λ (R : Relation). Order n R) (sym marks_put) (order_put n (marks n old) a b o f)

-- a step dropped
module _ (n : ℕ) (few : n ≤ 64) (old new : List ℕ) (o : Order n (marks n old)) (a : ℕ) (la : a < n)
    (is : (x : ℕ) → x < n → get_or new x 0 ≡ pruned a x (get_or old x 0)) where
  at_drop : (x y : ℕ) → x < n → y < n → marks n new x y ≡ dropped (marks n old) a x y
  at_drop x y lx ly =
      let e : bit (get_or new x 0) y ≡ (bit (get_or old x 0) y && (not (eqb x a) && not (eqb y a))) =
      ap (λ (k : ℕ). bit k y) (is x lx) ∙ bit_cond_and (eqb x a) a (get_or old x 0) y (omega arith) (omega arith) in
      let m = inside n new x y lx ly in
      let p = inside n old x y lx ly in
      cc

  pub marks_dropped : marks n new ≡ dropped (marks n old) a
  marks_dropped = outside n new (dropped (marks n old) a) (order_dropped n (marks n old) a o).within at_drop

  pub marks_dropped_order : Order n (marks n new)
  marks_dropped_order = subst (λ (R : Relation). Order n R) (sym marks_dropped) (order_dropped n (marks n old) a o)
