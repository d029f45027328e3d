-- A line by its first two bytes.
use Rattle.std.proofs.Common.{◌≡◌, ℕ, ◌-◌, ◌≤◌, List, [], ◌∷◌, length, get_or, take, drop, None, Err, Result, sym, refl, ap, ◌∙◌, ⊎_elim, arith}
use Rattle.std.proofs.lemmas.List.{take_rest}
use Rattle.std.proofs.lemmas.Bool.{cases_eq, cond-true, cond-false, eq-eqb, ne_eqb}
use Rattle.std.specs.List.{onto_first}
use Rattle.line.specs.Bytes.{bad_byte}
use Rattle.line.specs.Fields.{fields}
use Rattle.line.specs.Letters.{kinds, kind_of}
use Rattle.line.specs.Parse.{of_kind, lettered, unless_bad, parsed}
use Rattle.line.specs.declared.command.Command.{Command}
use Rattle.line.specs.declared.command.Refusal.{Refusal}
use Rattle.line.specs.declared.command.Refusal.TheVariants.{NoLetter}

abbrev Told : Type 0
Told = Result Command Refusal

-- no bad byte
good : (line : List ℕ) (r : Told) → None ≡ bad_byte line → r ≡ lettered (fields line) → r ≡ parsed line
good line r n e = e ∙ ap (λ o. unless_bad o (lettered (fields line))) n

-- a comma is no letter
comma_none : (l : ℕ) (ts : List (List ℕ)) → l ≡ 44 → of_kind (kind_of kinds l) ts ≡ Err NoLetter
comma_none l ts e = ap (λ x. of_kind (kind_of kinds x) ts) e

empty_first : (l : ℕ) (bs : List ℕ) → l ≡ 44 → lettered (fields (l ∷ bs)) ≡ Err NoLetter
empty_first l bs e = ap lettered (cond-true _ _ _ (eq-eqb l 44 e))

-- the first field is empty or has one byte
by_first : (l : ℕ) (bs : List ℕ) (ts : List (List ℕ)) → ((l ≡ 44 → ⊥) → fields (l ∷ bs) ≡ (l ∷ []) ∷ ts) → of_kind (kind_of kinds l) ts ≡ lettered (fields (l ∷ bs))
by_first l bs ts e = ⊎_elim (λ c. comma_none l ts c ∙ sym (empty_first l bs c)) (λ n. sym (ap lettered (e n))) (cases_eq l 44)

pub alone : (line : List ℕ) (r : Told) → length line ≡ 1 → None ≡ bad_byte line → r ≡ of_kind (kind_of kinds (get_or line 0 0)) [] → r ≡ parsed line
alone [] r l n e = absurd (omega arith)
alone (x ∷ []) r l n e = good (x ∷ []) r n (e ∙ by_first x [] [] (λ c. cond-false _ _ _ (ne_eqb x 44 c)))
alone (x ∷ y ∷ bs) r l n e = absurd (omega arith)

pub split : (line : List ℕ) (r : Told) → 2 ≤ length line → get_or line 1 0 ≡ 44 → None ≡ bad_byte line → r ≡ of_kind (kind_of kinds (get_or line 0 0)) (fields (take (length line - 2) (drop 2 line))) → r ≡ parsed line
split [] r l c n e = absurd (omega arith)
split (x ∷ []) r l c n e = absurd (omega arith)
split (x ∷ b ∷ bs) r l c n e =
    good (x ∷ b ∷ bs) r n (e ∙ by_first x (b ∷ bs) _ (λ m.
    cond-false _ _ _ (ne_eqb x 44 m) ∙ ap (onto_first x) (cond-true _ _ _ (eq-eqb b 44 c)) ∙ ap (λ y. (x ∷ []) ∷ fields y) (sym (take_rest (x ∷ b ∷ bs) 2))))

-- two bytes and more before the first comma
longer : (x b : ℕ) (fs : List (List ℕ)) → lettered (onto_first x (onto_first b fs)) ≡ Err NoLetter
longer x b [] = refl
longer x b (f ∷ fs) = refl

pub no_letter : (line : List ℕ) → (length line ≡ 1 → ⊥) → (2 ≤ length line → get_or line 1 0 ≡ 44 → ⊥) → None ≡ bad_byte line → Err NoLetter ≡ parsed line
no_letter [] a b n = refl
no_letter (x ∷ []) a b n = absurd (a refl)
no_letter (x ∷ y ∷ bs) a b n =
    let m = b (omega arith) in
    good (x ∷ y ∷ bs) _ n (sym (⊎_elim (empty_first x (y ∷ bs)) (λ c. ap lettered (cond-false _ _ _ (ne_eqb x 44 c) ∙ ap (onto_first x) (cond-false _ _ _ (ne_eqb y 44 m))) ∙ longer x y (fields bs)) (cases_eq x 44)))
