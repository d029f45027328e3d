-- Entries by label.
use Rattle.std.proofs.Common.{◌≡◌, ℕ, zero, suc, ◌+◌, ◌<◌, ◌≤◌, Bool, true, false, cond, eqb, List, length, get_or, set, replicate, Some, None, Option, sym, refl, ap, ◌∙◌, ⊎_elim, arith, get_or-set_other, get_or-set_same}
use Rattle.std.proofs.lemmas.Bool.{cases_eq, cond-false, cond-true, eq-eqb, ne_eqb}
use Rattle.std.specs.Option.{option_map, MatchOption}
use Rattle.semantics.specs.Causes.{first_such}
use Rattle.semantics.specs.Decomposing.{upfrom}

pub blank_at : {X : Type 0} (n : ℕ) (x : X) (i : ℕ) → get_or (replicate n x) i x ≡ x
blank_at zero x i = refl
blank_at (suc n) x zero = refl
blank_at (suc n) x (suc i) = blank_at n x i

pub set_at : {X : Type 0} (xs : List X) (k : ℕ) (x d : X) (i : ℕ) → k < length xs → get_or (set xs k x) i d ≡ cond (eqb i k) x (get_or xs i d)
set_at xs k x d i l = ⊎_elim
    (λ (e : i ≡ k). ap (λ j. get_or (set xs k x) j d) e ∙ get_or-set_same xs k x d l ∙ sym (cond-true (eqb i k) _ _ (eq-eqb i k e)))
    (λ n. get_or-set_other xs k i x d n ∙ sym (cond-false (eqb i k) _ _ (ne_eqb i k n)))
    (cases_eq i k)

pub mapped_cond : {X Y : Type 0} (h : X → Y) (b : Bool) (x : X) (o : Option X) → option_map h (cond b (Some x) o) ≡ cond b (Some (h x)) (option_map h o)
mapped_cond h true x o = refl
mapped_cond h false x o = refl

-- what no number from k up to `end` passes, and the first that passes, is what the search finds
pub such_from : (test : ℕ → Bool) (k n end : ℕ) (r : Option ℕ) → k + n ≡ end
    → MatchOption r ((i : ℕ) → k ≤ i → i < end → test i ≡ false) (λ i. (k ≤ i) × (i < end) × (test i ≡ true) × ((j : ℕ) → k ≤ j → j < i → test j ≡ false))
    → r ≡ first_such test (upfrom k n)
such_from test k zero end None e h = refl
such_from test k zero end (Some i) e h = absurd (omega arith)
such_from test k (suc n) end None e h =
    sym (cond-false (test k) _ _ (h k (omega arith) (omega arith)) ∙ sym (such_from test (suc k) n end None (omega arith) (λ i a b. h i (omega arith) b)))
such_from test k (suc n) end (Some i) e h = ⊎_elim
    (λ (q : i ≡ k). sym (cond-true (test k) _ _ (ap test (sym q) ∙ h.2) ∙ ap Some (sym q)))
    (λ d. sym (cond-false (test k) _ _ (h.3 k (omega arith) (omega arith)) ∙ sym (such_from test (suc k) n end (Some i) (omega arith) (omega arith, h.1, h.2, λ j a b. h.3 j (omega arith) b))))
    (cases_eq i k)
