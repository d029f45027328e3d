use Rattle.std.proofs.Common.{ℕ, eqb, refl, ap, arith}
use mir.Syntax.{w64}
use Rattle.std.proofs.lemmas.Nat.Bits.{bit_at-trailing_zeros}
use Rattle.masks.specs.Bits.{bit}
use Rattle.masks.proofs.lowest.Goals as goal

pub returns : goal.returns
unfolding bit
returns c = let t = bit_at-trailing_zeros w64 c.args.mask c.requires (omega arith) in record { is = refl; low = t.0; has = ap (λ (k : ℕ). eqb k 1) t.1 }
