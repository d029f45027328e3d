-- The fields are the parts of the line between its commas.
use Rattle.std.proofs.Common.{◌≡◌, ℕ, zero, suc, eqb, List, [], ◌∷◌, length, get_or, sym, subst, ⊎_elim, arith}
use Rattle.std.proofs.lemmas.Bool.{cases_Bool, cond-true, cond-false, eqb-false}
use Rattle.std.specs.List.{onto_first}
use Rattle.std.proofs.lemmas.List.Splits.{join_with_byte-slice_split}
use Rattle.line.specs.Fields.{fields, joined, NoComma}

pub whole : (line : List ℕ) → joined (fields line) ≡ line
whole line = join_with_byte-slice_split 44 line

abbrev Apart : List (List ℕ) → Type 0
Apart fs = (i : ℕ) → NoComma (get_or fs i []) (length (get_or fs i []))

no_comma_more : (b : ℕ) (f : List ℕ) → (b ≡ 44 → ⊥) → NoComma f (length f) → NoComma (b ∷ f) (length (b ∷ f))
no_comma_more b f n h zero l = n
no_comma_more b f n h (suc k) l = h k (omega arith)

apart_first : (b : ℕ) (fs : List (List ℕ)) → (b ≡ 44 → ⊥) → Apart fs → Apart (onto_first b fs)
apart_first b [] n h zero = no_comma_more b [] n (λ k l. absurd (omega arith))
apart_first b [] n h (suc i) = λ k l. absurd (omega arith)
apart_first b (f ∷ fs) n h zero = no_comma_more b f n (h 0)
apart_first b (f ∷ fs) n h (suc i) = h (suc i)

apart_none : (fs : List (List ℕ)) → Apart fs → Apart ([] ∷ fs)
apart_none fs h zero = λ k l. absurd (omega arith)
apart_none fs h (suc i) = h i

pub apart : (line : List ℕ) → Apart (fields line)
apart [] = apart_none [] (λ i k l. absurd (omega arith))
apart (b ∷ bs) =
    ⊎_elim
    (λ e. subst Apart (sym (cond-true _ _ _ e)) (apart_none (fields bs) (apart bs)))
    (λ e. subst Apart (sym (cond-false _ _ _ e)) (apart_first b (fields bs) (eqb-false b 44 e) (apart bs)))
    (cases_Bool (eqb b 44))
