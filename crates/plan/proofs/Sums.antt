-- A mask is the sum of its powers of two.
use Rattle.std.proofs.Common.{◌≡◌, ℕ, zero, suc, ◌+◌, ◌*◌, ◌/◌, ◌%◌, ◌^◌, ◌<◌, cond, eqb, sym, ap, ◌∙◌, ap₂, mod-lt, mod-eq_of_lt, one-add, arith, lit<}
use lib.Pow.{mod-pow-add}
use Rattle.masks.specs.Bits.{bit}
use Rattle.semantics.specs.Facts.{as_sum, Facts, sum_below}

digit_part : (d k : ℕ) → d < 2 → d * k ≡ cond (eqb d 1) k 0
digit_part zero k h = omega arith
digit_part (suc zero) k h = omega arith
digit_part (suc (suc d)) k h = let z : ⊥ = omega arith in absurd z

sum_bits : (m : ℕ) (facts : Facts) → ((f : ℕ) → bit m f ≡ facts f) → (n : ℕ) → m % 2 ^ n ≡ sum_below n facts
unfolding bit
sum_bits m facts h zero = omega arith
sum_bits m facts h (suc n) =
    let cut : m % 2 ^ suc n ≡ (m / 2 ^ n % 2) * 2 ^ n + m % 2 ^ n = ap (λ (k : ℕ). m % 2 ^ k) (sym (one-add n)) ∙ mod-pow-add m 1 n in
    let low : m % 2 ^ n ≡ sum_below n facts = sum_bits m facts h n in
    let high : (m / 2 ^ n % 2) * 2 ^ n ≡ cond (facts n) (2 ^ n) 0 = digit_part (m / 2 ^ n % 2) (2 ^ n) (mod-lt (m / 2 ^ n) (lit< tt)) ∙ ap (λ b. cond b (2 ^ n) 0) (h n) in
    cut ∙ (let e : (m / 2 ^ n % 2) * 2 ^ n + m % 2 ^ n ≡ m % 2 ^ n + (m / 2 ^ n % 2) * 2 ^ n = omega arith in e) ∙ ap₂ ◌+◌ low high

pub sum_of_mask : (m : ℕ) (facts : Facts) → m < 2 ^ 64 → ((f : ℕ) → bit m f ≡ facts f) → m ≡ as_sum facts
sum_of_mask m facts l h = sym (mod-eq_of_lt l) ∙ sum_bits m facts h 64
