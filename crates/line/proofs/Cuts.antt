-- The fields up to a comma and after it, and how many a line has.
use Rattle.std.proofs.Common.{◌≡◌, ℕ, suc, ◌+◌, ◌<◌, ◌≤◌, ◌^◌, Bool, true, false, cond, eqb, List, [], ◌∷◌, length, take, drop, Some, None, Option, sym, refl, ap, ◌∙◌, arith}
use Rattle.std.specs.Borrow.{Bor}
use Rattle.std.specs.Option.{ForSome, IfSome}
use Rattle.std.specs.List.{onto_first, position, position_from, position_or_len}
use Rattle.std.proofs.lemmas.Bool.{cond-false}
use Rattle.std.proofs.lemmas.Bool.Decides.{nat_tests}
use Rattle.std.proofs.lemmas.Iterator.Adapters.{position_from-zero}
use Rattle.std.proofs.lemmas.List.Splits.{slice_split_first, length-slice_split}
use Rattle.std.proofs.lemmas.List.Sums.{count_by-le-length}
use Rattle.std.proofs.lemmas.Option.{cond_some, none-some}
use Rattle.line.specs.Fields.{fields, placed, left}

abbrev pub is_comma : ℕ → Bool
is_comma b = eqb b 44

pub fields_comma : (bs : List ℕ) (i : ℕ) → Some i ≡ position is_comma bs → fields bs ≡ take i bs ∷ fields (drop (i + 1) bs)
fields_comma bs i e =
    let found = cond_some _ (position_or_len is_comma bs) i (sym e) in
    let inside : position_or_len is_comma bs < length bs = grind (arith, nat_tests, found.0) in
    slice_split_first is_comma bs 0 inside ∙ ap (λ k. take k bs ∷ fields (drop (k + 1) bs)) found.1

no_comma : (bs : List ℕ) (i : ℕ) → position_from is_comma i bs ≡ None → fields bs ≡ bs ∷ []
no_comma [] i e = refl
no_comma (b ∷ bs) i e = at (is_comma b) refl e (no_comma bs (i + 1))
  where
    at : (t : Bool) → is_comma b ≡ t → cond t (Some i) (position_from is_comma (i + 1) bs) ≡ None → (position_from is_comma (i + 1) bs ≡ None → fields bs ≡ bs ∷ []) → fields (b ∷ bs) ≡ (b ∷ bs) ∷ []
    at true h n rest = absurd (none-some i (sym n))
    at false h n rest = cond-false _ _ _ h ∙ ap (onto_first b) (rest n)

pub fields_last : (bs : List ℕ) → None ≡ position is_comma bs → fields bs ≡ bs ∷ []
fields_last bs e = no_comma bs 0 (sym (e ∙ position_from-zero is_comma bs))

pub length-placed : (place : ℕ) (fs : List (List ℕ)) → length (placed place fs) ≡ length fs
length-placed place [] = refl
length-placed place (f ∷ fs) = ap suc (length-placed (place + 1) fs)

-- a line has at most one field more than bytes
few : (place : ℕ) (bs : List ℕ) → length (placed place (fields bs)) ≤ length bs + 1
few place bs = omega (arith, length-placed place (fields bs), length-slice_split is_comma bs, count_by-le-length is_comma bs)

pub count_fits : (r : Option (ℕ × Bor (List ℕ))) → ForSome r (λ x. x.0 + length x.1.now + 1 < 2 ^ 64) → length (left r) < 2 ^ 64
count_fits None h = omega arith
count_fits (Some x) h = let n = few x.0 x.1.now in omega (arith, h x refl)

pub place_fits : (r : Option (ℕ × Bor (List ℕ))) → ForSome r (λ x. x.0 + length x.1.now + 1 < 2 ^ 64) → (n : ℕ) → n ≤ length (left r) → IfSome r (λ x. x.0 + n < 2 ^ 64)
place_fits None h n e = tt
place_fits (Some x) h n e = let m = few x.0 x.1.now in omega (arith, h x refl)

pub one_more : (r : Option (ℕ × Bor (List ℕ))) (n : ℕ) → IfSome r (λ x. x.0 ≡ 1) → IfSome r (λ x. x.0 + n < 2 ^ 64) → n ≡ length (left r) → n + 1 < 2 ^ 64
one_more None n o h e = omega (arith, e)
one_more (Some x) n o h e = omega (arith, o, h)
