-- A search along the pairs: what is seen, and what is followed.
use Rattle.std.proofs.Common.{◌≡◌, ℕ, ◌-◌, ◌^◌, ◌<◌, Bool, true, false, cond, ◌&&◌, ◌||◌, eqb, List, [], ◌∷◌, ◌++◌, sym, refl, ap, ◌∙◌, subst, ⊎_elim, arith}
use lib.Bits.{bit_and, bit_or}
use Rattle.std.proofs.lemmas.Bool.{both_ways, eq-eqb, eqb-true, or_cases, or_left, or_right}
use Rattle.masks.specs.Bits.{bit}
use Rattle.order.specs.Stored.{closure, leads}
use Rattle.masks.proofs.Bits.{bit_and_not, bit_below, bit-or, bit_pow, bit_zero}
use Rattle.order.specs.Lists.{closure_has, closure_least, closure_transitive, leads_listed, listed_leads}
use Rattle.semantics.specs.Closures.{Listed}
use Rattle.semantics.specs.Orders.{Holds}

leads_push : (ps : List (ℕ × ℕ)) (p : ℕ × ℕ) (x y : ℕ) → leads (ps ++ p ∷ []) x y ≡ (leads ps x y || (eqb p.0 x && eqb p.1 y))
unfolding leads
leads_push [] p x y = grind arith
leads_push (q ∷ ps) p x y = let ih = leads_push ps p x y in grind arith

-- the targets of x among some pairs, and one pair more
pub targets_none : (x y : ℕ) → bit 0 y ≡ leads [] x y
unfolding leads
targets_none x y = bit_zero y

bit_cond : (t : Bool) (m p y : ℕ) → bit (cond t (bit_or m (2 ^ p)) m) y ≡ (bit m y || (t && eqb p y))
bit_cond true m p y = bit-or m (2 ^ p) y ∙ ap (λ (c : Bool). bit m y || c) (bit_pow p y)
bit_cond false m p y = grind arith

pub targets_more : (ps : List (ℕ × ℕ)) (p : ℕ × ℕ) (m n x : ℕ) → ((y : ℕ) → bit m y ≡ leads ps x y) → n ≡ cond (eqb p.0 x) (bit_or m (2 ^ p.1)) m
    → (y : ℕ) → bit n y ≡ leads (ps ++ p ∷ []) x y
targets_more ps p m n x is e y =
    ap (λ (k : ℕ). bit k y) e ∙ bit_cond (eqb p.0 x) m p.1 y ∙ ap (λ (c : Bool). c || (eqb p.0 x && eqb p.1 y)) (is y) ∙ sym (leads_push ps p x y)

-- a is seen, what is seen is a or after a, and the targets of what is followed are seen
pub record Reaching (ps : List (ℕ × ℕ)) (a seen followed : ℕ) : Type 0 where
  pub start : bit seen a ≡ true
  pub sound : (y : ℕ) → bit seen y ≡ true → (eqb a y || closure ps a y) ≡ true
  pub done : (x y : ℕ) → bit followed x ≡ true → Listed x y ps → bit seen y ≡ true

pub reaching_none : (ps : List (ℕ × ℕ)) (a : ℕ) → Reaching ps a (2 ^ a) 0
reaching_none ps a = record {
  start = bit_pow a a ∙ eq-eqb a a refl;
  sound = λ y h. or_left (eqb a y) (closure ps a y) (sym (bit_pow a y) ∙ h);
  done = λ x y h k. absurd (both_ways (bit 0 x) (bit_zero x) h);
}

module _ (ps : List (ℕ × ℕ)) (a seen followed : ℕ) (r : Reaching ps a seen followed) where
  -- the step x is followed
  module _ (x m : ℕ) (in_seen : bit seen x ≡ true) (is : (y : ℕ) → bit m y ≡ leads ps x y) where
    after_x : (y : ℕ) → Listed x y ps → Holds (closure ps) a y
    after_x y l = ⊎_elim
        (λ e. subst (λ (k : ℕ). Holds (closure ps) k y) (sym (eqb-true a x e)) (closure_has ps x y l))
        (λ h. closure_transitive ps a x y h (closure_has ps x y l))
        (or_cases (eqb a x) (closure ps a x) (r.sound x in_seen))

    old : (y : ℕ) → bit seen y ≡ true → bit (bit_or seen m) y ≡ true
    old y h = bit-or seen m y ∙ or_left (bit seen y) (bit m y) h

    new : (y : ℕ) → Listed x y ps → bit (bit_or seen m) y ≡ true
    new y l = bit-or seen m y ∙ or_right (bit seen y) (bit m y) (is y ∙ listed_leads ps x y l)

    pub reaching_more : Reaching ps a (bit_or seen m) (bit_or followed (2 ^ x))
    reaching_more = record {
      start = old a r.start;
      sound = λ y h. ⊎_elim (r.sound y) (λ k. or_right (eqb a y) (closure ps a y) (after_x y (leads_listed ps x y (sym (is y) ∙ k))))
          (or_cases (bit seen y) (bit m y) (sym (bit-or seen m y) ∙ h));
      done = λ u y h l. ⊎_elim (λ k. old y (r.done u y k l))
          (λ k. new y (subst (λ (v : ℕ). Listed v y ps) (sym (eqb-true x u (sym (bit_pow x u) ∙ k))) l))
          (or_cases (bit followed u) (bit (2 ^ x) u) (sym (bit-or followed (2 ^ x) u) ∙ h));
    }

  -- nothing is left to follow
  module _ (fs : seen < 2 ^ 64) (ff : followed < 2 ^ 64) (end : bit_and seen (18446744073709551615 - followed) ≡ 0) where
    all_followed : (x : ℕ) → bit seen x ≡ true → bit followed x ≡ true
    all_followed x h =
        let e = bit_and_not seen followed x ff (bit_below seen x fs) in
        let z : bit (bit_and seen (18446744073709551615 - followed)) x ≡ false = ap (λ (k : ℕ). bit k x) end ∙ bit_zero x in
        grind arith

    back : (y : ℕ) → (eqb a y || closure ps a y) ≡ true → bit seen y ≡ true
    back y h = ⊎_elim
        (λ e. subst (λ (k : ℕ). bit seen k ≡ true) (eqb-true a y e) r.start)
        (λ k. closure_least ps (λ u v. bit seen u ≡ true → bit seen v ≡ true) (λ u v l s. r.done u v (all_followed u s) l) (λ u v w p q s. q (p s)) a y k r.start)
        (or_cases (eqb a y) (closure ps a y) h)

    pub reached : (y : ℕ) → bit seen y ≡ (eqb a y || closure ps a y)
    reached y = let p = r.sound y in let q = back y in grind arith

  -- one that is left to follow is seen, and not followed
  pub to_follow : (x : ℕ) → seen < 2 ^ 64 → followed < 2 ^ 64 → bit (bit_and seen (18446744073709551615 - followed)) x ≡ true
      → (bit seen x ≡ true) × (bit followed x ≡ false)
  to_follow x fs ff h = let e = bit_and_not seen followed x ff (bit_below seen x fs) in grind arith
