-- Strict orders: a pair put, a first step, and an order that lists every step.
use Rattle.std.proofs.Common.{◌≡◌, ℕ, Bool, true, false, cond, ◌⊎◌, ◌↔◌, List, [], ◌∷◌, sym, refl, inl, inr, ⊎_elim, arith}
use Rattle.std.proofs.lemmas.Bool.{cases_Bool}
use Rattle.semantics.specs.Orders.{Earlier, Holds, In, Once, Permitted, put, Relation, Smallest, Strict}

-- a test that does not come out true
pub is_false : (b : Bool) → (b ≡ true → ⊥) → b ≡ false
is_false true h = absurd (h refl)
is_false false h = refl

-- what a pair of the relation after a put is
pub put_cases : (R : Relation) (a b x y : ℕ) → Holds (put R a b) x y
    → Holds R x y ⊎ (((x ≡ a) ⊎ Holds R x a) × ((b ≡ y) ⊎ Holds R b y))
put_cases R a b x y h = grind (arith)

pub put_old : (R : Relation) (a b x y : ℕ) → Holds R x y → Holds (put R a b) x y
put_old R a b x y h = grind (arith)

pub put_new : (R : Relation) (a b x y : ℕ) → (x ≡ a) ⊎ Holds R x a → (b ≡ y) ⊎ Holds R b y → Holds (put R a b) x y
put_new R a b x y h k = grind arith

pub put_smallest : (R : Relation) (a b : ℕ) → ((x y z : ℕ) → Holds R x y → Holds R y z → Holds R x z) → Smallest R a b (put R a b)
put_smallest R a b tr = record {
  keeps = put_old R a b;
  has = put_new R a b a b (inl refl) (inl refl);
  passes_on = λ x y z h k. grind (arith, tr);
  no_more = λ Q old new qtr x y h. grind (arith, old, new, qtr);
}

pub put_strict : (R : Relation) (a b : ℕ) → Strict R → (a ≡ b → ⊥) → (Holds R b a → ⊥) → Strict (put R a b)
put_strict R a b s apart not_back = record {
  never_itself = λ x h. grind (arith, s.passes_on, s.never_itself);
  passes_on = (put_smallest R a b s.passes_on).passes_on;
}

-- Among the numbers of a list that is not empty, one has no other of them before it.
pub first : (R : Relation) → Strict R → (m : ℕ) (xs : List ℕ)
    → (r : ℕ) × In r (m ∷ xs) × ((y : ℕ) → In y (m ∷ xs) → Holds R y r → ⊥)
first R s m [] = (m, inl refl, λ y i h. grind (arith, s.never_itself))
first R s m (x ∷ xs) = step (first R s m xs) (cases_Bool (R x (first R s m xs).0))
  where
    step : (f : (r : ℕ) × In r (m ∷ xs) × ((y : ℕ) → In y (m ∷ xs) → Holds R y r → ⊥)) → (R x f.0 ≡ true) ⊎ (R x f.0 ≡ false)
        → (r : ℕ) × In r (m ∷ (x ∷ xs)) × ((y : ℕ) → In y (m ∷ (x ∷ xs)) → Holds R y r → ⊥)
    step f (inl e) = (x, inr (inl refl), λ y i h. grind (arith, s.never_itself, s.passes_on y x f.0, f.2 y))
    step f (inr e) = (f.0, grind arith, λ y i h. grind (arith, s.never_itself, s.passes_on, f.2))

-- The steps put in one after the other, each before the first that it is before.
pub place : Relation → ℕ → List ℕ → List ℕ
place R x [] = x ∷ []
place R x (y ∷ ys) = cond (R x y) (x ∷ (y ∷ ys)) (y ∷ place R x ys)

pub arrange : Relation → List ℕ → List ℕ
arrange R [] = []
arrange R (x ∷ xs) = place R x (arrange R xs)

-- no number of the list is before one that stands earlier
abbrev pub Ranked : Relation → List ℕ → Type 0
Ranked R [] = Unit {0}
Ranked R (y ∷ ys) = ((z : ℕ) → In z ys → Holds R z y → ⊥) × Ranked R ys

pub in_place : (R : Relation) (x z : ℕ) (ys : List ℕ) → In z (place R x ys) → (z ≡ x) ⊎ In z ys
unfolding place
in_place R x z [] h = h
in_place R x z (y ∷ ys) h = let ih = in_place R x z ys in grind arith

pub place_in : (R : Relation) (x z : ℕ) (ys : List ℕ) → (z ≡ x) ⊎ In z ys → In z (place R x ys)
unfolding place
place_in R x z [] h = h
place_in R x z (y ∷ ys) h = let ih = place_in R x z ys in grind arith

pub place_once : (R : Relation) (x : ℕ) (ys : List ℕ) → (In x ys → ⊥) → Once ys → Once (place R x ys)
unfolding place
place_once R x [] out o = (out, o)
place_once R x (y ∷ ys) out o = let ih = place_once R x ys in let out' = in_place R x y ys in grind arith

pub place_ranked : (R : Relation) → Strict R → (x : ℕ) (ys : List ℕ) → Ranked R ys → Ranked R (place R x ys)
unfolding place
place_ranked R s x [] r = (λ z i h. i, tt)
place_ranked R s x (y ∷ ys) r = elim (R x y) as (λ b. R x y ≡ b → Ranked R (cond b (x ∷ (y ∷ ys)) (y ∷ place R x ys))) [
  | true ↦ λ e. (λ z i h. grind (arith, s.never_itself, s.passes_on y x y, s.passes_on z x y, r.0 z), r)
  | false ↦ λ e. (λ z i h. grind (arith, in_place R x z ys, r.0 z), place_ranked R s x ys r.1)
] refl

pub in_arrange : (R : Relation) (z : ℕ) (xs : List ℕ) → In z xs ↔ In z (arrange R xs)
unfolding arrange
in_arrange R z [] = (λ h. h, λ h. h)
in_arrange R z (x ∷ xs) = let ih = in_arrange R z xs in
    (λ h. place_in R x z (arrange R xs) (⊎_elim inl (λ i. inr (ih.0 i)) h), λ h. ⊎_elim inl (λ i. inr (ih.1 i)) (in_place R x z (arrange R xs) h))

pub arrange_once : (R : Relation) (xs : List ℕ) → Once xs → Once (arrange R xs)
unfolding arrange
arrange_once R [] o = tt
arrange_once R (x ∷ xs) o = place_once R x (arrange R xs) (λ i. o.0 ((in_arrange R x xs).1 i)) (arrange_once R xs o.1)

pub arrange_ranked : (R : Relation) → Strict R → (xs : List ℕ) → Ranked R (arrange R xs)
unfolding arrange
arrange_ranked R s [] = tt
arrange_ranked R s (x ∷ xs) = place_ranked R s x (arrange R xs) (arrange_ranked R s xs)

pub ranked_earlier : (R : Relation) → Strict R → (xs : List ℕ) (x y : ℕ) → Ranked R xs → In x xs → In y xs → Holds R x y → Earlier xs x y
ranked_earlier R s [] x y r i j h = i
ranked_earlier R s (z ∷ zs) x y r i j h = let ih = ranked_earlier R s zs x y r.1 in grind (arith, s.never_itself, r.0 x, r.0 z)

-- Every strict order of finitely many steps has a permitted order.
pub permitted : (R : Relation) → Strict R → (steps : List ℕ) → Once steps → Permitted steps (Holds R) (arrange R steps)
permitted R s steps o = record {
  each = λ x. in_arrange R x steps;
  once = arrange_once R steps o;
  after = λ x y i j h. ranked_earlier R s (arrange R steps) x y (arrange_ranked R s steps) ((in_arrange R x steps).0 i) ((in_arrange R y steps).0 j) h;
}

-- A permitted order of a larger relation is one of the smaller.
pub permitted_less : (R S : ℕ → ℕ → Type 0) (steps order : List ℕ) → ((x y : ℕ) → R x y → S x y) → Permitted steps S order → Permitted steps R order
permitted_less R S steps order sub p = record { each = p.each; once = p.once; after = λ x y i j h. p.after x y i j (sub x y h) }

-- the two puts that bring t between p and c
between : Relation → ℕ → ℕ → ℕ → Relation
between R p t c = put (put R p t) t c

pub order_between : (R : Relation) → Strict R → (steps : List ℕ) → Once steps → (p t c : ℕ) → In p steps → In t steps → In c steps
    → (t ≡ p → ⊥) → (t ≡ c → ⊥) → (Holds R t p → ⊥) → (Holds R c t → ⊥) → Holds R p c
    → (order : List ℕ) × Permitted steps (Holds R) order × Earlier order p t × Earlier order t c
unfolding between
order_between R s steps o p t c ip it ic tp tc before_p after_c pc =
    let S : Relation = between R p t c in
    let s₁ : Strict (put R p t) = put_strict R p t s (λ e. tp (sym e)) before_p in
    let s₂ : Strict S = put_strict (put R p t) t c s₁ tc (λ h. grind (arith, put_cases R p t c t h, s.never_itself c, s.never_itself p, s.passes_on c p c)) in
    let perm : Permitted steps (Holds S) (arrange S steps) = permitted S s₂ steps o in (
      arrange S steps,
      permitted_less (Holds R) (Holds S) steps (arrange S steps) (λ x y h. put_old (put R p t) t c x y (put_old R p t x y h)) perm,
      perm.after p t ip it (put_old (put R p t) t c p t (put_new R p t p t (inl refl) (inl refl))),
      perm.after t c it ic (put_new (put R p t) t c t c (inl refl) (inl refl)),
    )

-- There is one smallest transitive relation, so whatever keeper has one answers as `put` does.
pub smallest_same : (R S Q : Relation) (a b : ℕ) → Smallest R a b S → Smallest R a b Q → (x y : ℕ) → S x y ≡ Q x y
smallest_same R S Q a b s q x y =
    let there = s.no_more Q q.keeps q.has q.passes_on x y in
    let back = q.no_more S s.keeps s.has s.passes_on x y in
    grind arith
