-- One bit of a number that is made by `|`, `&` or `!`.
use Rattle.std.proofs.Common.{◌≡◌, ℕ, ◌+◌, ◌-◌, ◌%◌, ◌^◌, ◌<◌, Bool, true, false, not, ◌&&◌, ◌||◌, eqb, ◌⊎◌, sym, refl, ap, ◌∙◌, inl, inr, ⊎_elim, arith}
use lib.Bits.{bit_and, bit_or, bit_xor}
use Prim.Native.Nat.{min, max}
use mir.Syntax.{w64}
use Rattle.std.specs.Int.{bit_at}
use Rattle.std.proofs.lemmas.Nat.{le_or_l, pow_below}
use Rattle.std.proofs.lemmas.Nat.Bits.{bit_at_above, bit_at_and, bit_at-lt, bit_at_not, bit_at_or, bit_at-pow_other, bit_at-pow_same, bit_at_xor, bit_at-zero}
use Rattle.std.proofs.lemmas.Bool.{both_ways, cases_eq, cases_lt, eq-eqb, ne_eqb, or_right}
use Rattle.std.proofs.lemmas.Bool.Decides.{nat_tests}
use Rattle.masks.specs.Bits.{bit}

digit_or : (p q : ℕ) → p < 2 → q < 2 → eqb (max p q) 1 ≡ (eqb p 1 || eqb q 1)
digit_or p q hp hq = grind (arith, nat_tests)

digit_and : (p q : ℕ) → p < 2 → q < 2 → eqb (min p q) 1 ≡ (eqb p 1 && eqb q 1)
digit_and p q hp hq = grind (arith, nat_tests)

-- against a set digit
digit_xor : (p q : ℕ) → p < 2 → q < 2 → eqb p 1 ≡ true → eqb ((p + q) % 2) 1 ≡ not (eqb q 1)
digit_xor p q hp hq e = grind (arith, nat_tests)

digit_not : (q : ℕ) → q < 2 → eqb (1 - q) 1 ≡ not (eqb q 1)
digit_not q h = grind (arith, nat_tests)

pub bit_zero : (y : ℕ) → bit 0 y ≡ false
unfolding bit
bit_zero y = ap (λ (k : ℕ). eqb k 1) (bit_at-zero y)

pub bit-or : (m n y : ℕ) → bit (bit_or m n) y ≡ (bit m y || bit n y)
unfolding bit
bit-or m n y = ap (λ (k : ℕ). eqb k 1) (bit_at_or m n y) ∙ digit_or (bit_at m y) (bit_at n y) (bit_at-lt m y) (bit_at-lt n y)

pub bit-and : (m n y : ℕ) → bit (bit_and m n) y ≡ (bit m y && bit n y)
unfolding bit
bit-and m n y = ap (λ (k : ℕ). eqb k 1) (bit_at_and m n y) ∙ digit_and (bit_at m y) (bit_at n y) (bit_at-lt m y) (bit_at-lt n y)

pub bit-xor : (m n y : ℕ) → bit m y ≡ true → bit (bit_xor m n) y ≡ not (bit n y)
unfolding bit
bit-xor m n y e = ap (λ (k : ℕ). eqb k 1) (bit_at_xor m n y) ∙ digit_xor (bit_at m y) (bit_at n y) (bit_at-lt m y) (bit_at-lt n y) e

bit-not : (p y : ℕ) → p < 2 ^ 64 → y < 64 → bit (18446744073709551615 - p) y ≡ not (bit p y)
unfolding bit
bit-not p y hp hy = ap (λ (k : ℕ). eqb k 1) (bit_at_not w64 p y hp hy) ∙ digit_not (bit_at p y) (bit_at-lt p y)

-- 2 ^ b has the one bit b
pow_at : (b y : ℕ) → (y ≡ b) ⊎ (y ≡ b → ⊥) → bit (2 ^ b) y ≡ eqb b y
unfolding bit
pow_at b y (inl e) = ap (λ (k : ℕ). eqb (bit_at (2 ^ b) k) 1) e ∙ ap (λ (k : ℕ). eqb k 1) (bit_at-pow_same b) ∙ sym (eq-eqb b y (sym e))
pow_at b y (inr n) = ap (λ (k : ℕ). eqb k 1) (bit_at-pow_other b y n) ∙ sym (ne_eqb b y (λ e. n (sym e)))

pub bit_pow : (b y : ℕ) → bit (2 ^ b) y ≡ eqb b y
bit_pow b y = pow_at b y (cases_eq y b)

pub or_turned : (p q : Bool) → (p || q) ≡ (q || p)
or_turned p q = grind arith

pub eqb_turned : (p q : ℕ) → eqb p q ≡ eqb q p
eqb_turned p q = grind (arith, nat_tests)

-- `m & !p` at 64 bits
pub bit_and_not : (m p y : ℕ) → p < 2 ^ 64 → (bit m y ≡ true → y < 64) → bit (bit_and m (18446744073709551615 - p)) y ≡ (bit m y && not (bit p y))
bit_and_not m p y hp hy =
    let e = bit-and m (18446744073709551615 - p) y in
    let f : bit m y ≡ true → bit (18446744073709551615 - p) y ≡ not (bit p y) = λ h. bit-not p y hp (hy h) in
    grind arith

-- `m & !(1 << a)` at 64 bits
pub bit_clear : (m a y : ℕ) → a < 64 → (bit m y ≡ true → y < 64) → bit (bit_and m (18446744073709551615 - 2 ^ a)) y ≡ (bit m y && not (eqb y a))
bit_clear m a y ha hy =
    bit_and_not m (2 ^ a) y (pow_below a 64 ha) hy ∙ ap (λ (c : Bool). bit m y && not c) (bit_pow a y ∙ eqb_turned a y)

-- a number of 64 bits has no bit past them
pub bit_below : (m y : ℕ) → m < 2 ^ 64 → bit m y ≡ true → y < 64
unfolding bit
bit_below m y l h = ⊎_elim (λ k. k) (λ k. let e = bit_at_above m 64 y l k in grind (arith, nat_tests)) (cases_lt y 64)

-- a mask with one number more is larger
pub or_more : (n x : ℕ) → bit n x ≡ false → n < bit_or n (2 ^ x)
or_more n x h =
    let le = le_or_l n (2 ^ x) in
    let has : bit (bit_or n (2 ^ x)) x ≡ true = bit-or n (2 ^ x) x ∙ or_right (bit n x) (bit (2 ^ x) x) (bit_pow x x ∙ eq-eqb x x refl) in
    let differ : n ≡ bit_or n (2 ^ x) → ⊥ = λ e. both_ways (bit n x) h (ap (λ (k : ℕ). bit k x) e ∙ has) in
    omega arith
