-- Loops that go up the steps of a plan, or up the labels of a list, until something is found.
use Rattle.std.proofs.Common.{◌≡◌, ℕ, suc, ◌+◌, ◌-◌, ◌<◌, Bool, true, false, cond, not, List, [], ◌∷◌, length, get_or, drop, is_some, Some, None, Option, sym, refl, ap, ◌∙◌, add-one, arith}
use Rattle.std.proofs.lemmas.List.{at_drop_more}
use Rattle.std.proofs.lemmas.Option.{slice_get-get_or}
use Rattle.semantics.specs.Causes.{first_such, first_found, also}
use Rattle.semantics.specs.PlanLines.{producer}
use Rattle.semantics.specs.declared.link.Link.{Link}
use Rattle.semantics.specs.Decomposing.{upfrom}
use Rattle.semantics.specs.Plans.{present_from}
use Rattle.plan.specs.Turns.{if_present, at_step, paired, no_producer}

-- the first of two finds
abbrev pub or_find : {Y : Type 0} → Option Y → Option Y → Option Y
or_find None rest = rest
or_find (Some y) rest = Some y

-- F seeks in a list, number by number
pub record Seeks {Y : Type 0} (F : List ℕ → Option Y) (find : ℕ → Option Y) : Type 0 where
  pub none : F [] ≡ None
  pub more : (x : ℕ) (xs : List ℕ) → F (x ∷ xs) ≡ or_find (find x) (F xs)

pub seeks_such : (test : ℕ → Bool) → Seeks (first_such test) (λ x. cond (test x) (Some x) None)
seeks_such test = record { none = refl; more = λ x xs. at (test x) x (first_such test xs) }
  where
    at : (b : Bool) (x : ℕ) (o : Option ℕ) → cond b (Some x) o ≡ or_find (cond b (Some x) None) o
    at true x o = refl
    at false x o = refl

pub seeks_found : {Y : Type 0} (find : ℕ → Option Y) → Seeks (first_found find) (λ x. paired x (find x))
seeks_found {Y} find = record { none = refl; more = λ x xs. at (find x) x (first_found find xs) }
  where
    at : (f : Option Y) (x : ℕ) (o : Option (ℕ × Y)) → also x f o ≡ or_find (paired x f) o
    at None x o = refl
    at (Some y) x o = refl

-- what is found from step i on
abbrev pub From : {Y : Type 0} → (List ℕ → Option Y) → List (Option ℕ) → ℕ → Option Y
From F os i = F (present_from i (drop i os))

module _ {Y : Type 0} (F : List ℕ → Option Y) (find : ℕ → Option Y) (s : Seeks F find) (os : List (Option ℕ)) where
  one : (i : ℕ) → i < length os → From F os i ≡ or_find (at_step os find i) (From F os (i + 1))
  one i h =
      let e : From F os i ≡ F (present_from i (get_or os i None ∷ drop (i + 1) os)) = at_drop_more (λ xs. F (present_from i xs)) os i None h in
      e ∙ at (get_or os i None) (drop (i + 1) os) ∙ ap (λ o. or_find (if_present o (find i)) (From F os (i + 1))) (sym (slice_get-get_or os i None h))
    where
      at : (o : Option ℕ) (rest : List (Option ℕ)) → F (present_from i (o ∷ rest)) ≡ or_find (if_present (Some o) (find i)) (F (present_from (i + 1) rest))
      at None rest = ap (λ k. F (present_from k rest)) (sym (add-one i))
      at (Some t) rest = s.more i (present_from (suc i) rest) ∙ ap (λ k. or_find (find i) (F (present_from k rest))) (sym (add-one i))

  pub seek_on : (i : ℕ) → i < length os → at_step os find i ≡ None → From F os i ≡ From F os 0 → From F os (i + 1) ≡ From F os 0
  seek_on i h n e = sym (one i h ∙ ap (λ o. or_find o (From F os (i + 1))) n) ∙ e

  pub seek_here : (i : ℕ) (y : Y) → i < length os → at_step os find i ≡ Some y → From F os i ≡ From F os 0 → Some y ≡ F (present_from 0 os)
  seek_here i y h n e = sym (one i h ∙ ap (λ o. or_find o (From F os (i + 1))) n) ∙ e

-- the same up the numbers below n
abbrev pub Below : {Y : Type 0} → (List ℕ → Option Y) → ℕ → ℕ → Option Y
Below F n i = F (upfrom i (n - i))

module _ {Y : Type 0} (F : List ℕ → Option Y) (find : ℕ → Option Y) (s : Seeks F find) (n : ℕ) where
  next : (i : ℕ) → i < n → Below F n i ≡ or_find (find i) (Below F n (i + 1))
  next i h =
      let k : n - i ≡ suc (n - (i + 1)) = omega arith in
      ap (λ m. F (upfrom i m)) k ∙ s.more i (upfrom (suc i) (n - (i + 1))) ∙ ap (λ m. or_find (find i) (F (upfrom m (n - (i + 1))))) (sym (add-one i))

  pub below_on : (i : ℕ) → i < n → find i ≡ None → Below F n i ≡ Below F n 0 → Below F n (i + 1) ≡ Below F n 0
  below_on i h e q = sym (next i h ∙ ap (λ o. or_find o (Below F n (i + 1))) e) ∙ q

-- a need with a producer
pub unlinked_on : (ls : List Link) (s n j : ℕ) (o : Option ℕ) → j < n → o ≡ producer ls s j → is_some o ≡ true → Below (first_such (no_producer ls s)) n j ≡ Below (first_such (no_producer ls s)) n 0
    → Below (first_such (no_producer ls s)) n (j + 1) ≡ Below (first_such (no_producer ls s)) n 0
unlinked_on ls s n j o l e h q =
    below_on (first_such (no_producer ls s)) (λ x. cond (no_producer ls s x) (Some x) None) (seeks_such (no_producer ls s)) n j l (ap (λ b. cond b (Some j) None) (ap not (sym (ap is_some e) ∙ h))) q

-- seeking what is found for a step
module _ {Y : Type 0} (find : ℕ → Option Y) (os : List (Option ℕ)) where
  pub found_here : (i : ℕ) (y : ℕ × Y) → i < length os → at_step os (λ x. paired x (find x)) i ≡ Some y → From (first_found find) os i ≡ From (first_found find) os 0 → Some y ≡ first_found find (present_from 0 os)
  found_here i y h e q = seek_here (first_found find) (λ x. paired x (find x)) (seeks_found find) os i y h e q

  pub found_on : (i : ℕ) → i < length os → at_step os (λ x. paired x (find x)) i ≡ None → From (first_found find) os i ≡ From (first_found find) os 0 → From (first_found find) os (i + 1) ≡ From (first_found find) os 0
  found_on i h e q = seek_on (first_found find) (λ x. paired x (find x)) (seeks_found find) os i h e q
