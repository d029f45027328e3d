-- Numbers read one by one.
use Rattle.std.proofs.Common.{◌≡◌, ℕ, ◌+◌, ◌-◌, ◌<◌, ◌≤◌, Bool, true, false, cond, List, [], ◌∷◌, ◌++◌, length, get_or, take, drop, set, replicate, Some, None, Ok, Err, Result, sym, refl, ap, ◌∙◌, append_assoc, append-nil, arith, length-set}
use Rattle.std.proofs.lemmas.List.{take_more_set, take_all, length-replicate}
use Rattle.std.proofs.lemmas.Bool.{cond-true, cond-false, eq-eqb, ne_eqb}
use Rattle.std.proofs.lemmas.Option.{cond_some, none-some}
use Rattle.line.specs.Fields.{placed}
use Rattle.line.specs.Numbers.{is_number, value}
use Rattle.line.specs.Parse.{onto, numbers, counted}
use Rattle.line.specs.declared.command.Refusal.{Refusal}
use Rattle.line.specs.declared.command.Refusal.TheVariants.{NoNumber, FieldCount}
use Rattle.line.proofs.Cuts.{length-placed}
use Rattle.line.proofs.Digits.{Told}

-- numbers in front of those that are yet to be read
abbrev pub front : List ℕ → Result (List ℕ) Refusal → Result (List ℕ) Refusal
front ns (Ok ms) = Ok (ns ++ ms)
front ns (Err e) = Err e

front_onto : (ns : List ℕ) (n : ℕ) (r : Result (List ℕ) Refusal) → front ns (onto n r) ≡ front (ns ++ n ∷ []) r
front_onto ns n (Ok ms) = ap Ok (sym (append_assoc ns (n ∷ []) ms))
front_onto ns n (Err e) = refl

front_none : (r : Result (List ℕ) Refusal) → front [] r ≡ r
front_none (Ok ms) = refl
front_none (Err e) = refl

-- Of the texts ts, of which the first is field 1, those before a place are read into ns, and a reader has the others left.
pub record Sofar (ts : List (List ℕ)) (ns : List ℕ) (us : List (ℕ × List ℕ)) (n : ℕ) : Type 0 where
  pub place : ℕ
  pub others : List (List ℕ)
  pub left : us ≡ placed place others
  pub begun : 1 ≤ place
  pub long : length ns ≡ n
  pub room : place - 1 + length others ≡ n
  pub is : numbers 1 ts ≡ front (take (place - 1) ns) (numbers place others)

pub start : (ts : List (List ℕ)) (us : List (ℕ × List ℕ)) (n : ℕ) → us ≡ placed 1 ts → length us ≡ n → Sofar ts (replicate n 0) us n
start ts us n e l =
    record {
      place = 1;
      others = ts;
      left = e;
      begun = omega arith;
      long = length-replicate n 0;
      room = omega (arith, l, ap length e, length-placed 1 ts);
      is = sym (front_none (numbers 1 ts));
    }

-- the reader's first field
record First (place : ℕ) (ts : List (List ℕ)) (at : ℕ) (text : List ℕ) (us : List (ℕ × List ℕ)) : Type 0 where
  pub later : List (List ℕ)
  pub is : ts ≡ text ∷ later
  pub here : at ≡ place
  pub next : us ≡ placed (place + 1) later

first : (place : ℕ) (ts : List (List ℕ)) (at : ℕ) (text : List ℕ) (us : List (ℕ × List ℕ)) → placed place ts ≡ (at, text) ∷ us → First place ts at text us
first place [] at text us e = absurd (omega (arith, ap length e))
first place (t ∷ ts) at text us e =
    let head : (place, t) ≡ (at, text) = ap (λ x. get_or x 0 (at, text)) e in
    record { later = ts; is = ap (λ x. x.1 ∷ ts) head; here = ap (λ x. x.0) (sym head); next = ap (drop 1) (sym e) }

-- a text that tells none is no number
told_none : (t : List ℕ) (b : Bool) → None ≡ cond b (Some (value t)) None → b ≡ false
told_none t true h = absurd (none-some (value t) h)
told_none t false h = refl

module _ {ts : List (List ℕ)} {ns : List ℕ} {us vs : List (ℕ × List ℕ)} {n : ℕ} (s : Sofar ts ns us n) (at : ℕ) (t : List ℕ) (e : us ≡ (at, t) ∷ vs) where
  f : First s.place s.others at t vs
  f = first s.place s.others at t vs (sym s.left ∙ e)

  pub inside : (1 ≤ at) × (at - 1 < n)
  inside = let l = ap length f.is in (omega (arith, f.here, s.begun), omega (arith, f.here, s.room))

  pub turn : (v : ℕ) → Told t (Some v) → Sofar ts (set ns (at - 1) v) vs n
  turn v h =
      let l = ap length f.is in
      let told = cond_some (is_number t) (value t) v (sym h) in
      let i : s.place - 1 + 1 ≡ s.place + 1 - 1 = omega (arith, s.begun) in
      let j : at - 1 ≡ s.place - 1 = omega (arith, f.here) in
      let more : take (s.place - 1 + 1) (set ns (s.place - 1) v) ≡ take (s.place - 1) ns ++ v ∷ [] = take_more_set ns (s.place - 1) v (omega (arith, s.long, s.room)) in
      let read : numbers s.place s.others ≡ onto v (numbers (s.place + 1) f.later) = ap (numbers s.place) f.is ∙ cond-true _ _ _ told.0 ∙ ap (λ x. onto x (numbers (s.place + 1) f.later)) told.1 in
      record {
        place = s.place + 1;
        others = f.later;
        left = f.next;
        begun = omega arith;
        long = length-set ns (at - 1) v ∙ s.long;
        room = omega (arith, s.begun, s.room);
        is =
            s.is ∙ ap (front (take (s.place - 1) ns)) read ∙ front_onto (take (s.place - 1) ns) v (numbers (s.place + 1) f.later)
            ∙ ap (λ x. front x (numbers (s.place + 1) f.later)) (sym more ∙ ap (λ x. take x (set ns (s.place - 1) v)) i ∙ ap (λ x. take (s.place + 1 - 1) (set ns x v)) (sym j));
      }

  pub stop : Told t None → Err (NoNumber at) ≡ numbers 1 ts
  stop h =
      let read : numbers s.place s.others ≡ Err (NoNumber s.place) = ap (numbers s.place) f.is ∙ cond-false _ _ _ (told_none t (is_number t) h) in
      ap (λ x. Err (NoNumber x)) f.here ∙ sym (s.is ∙ ap (front (take (s.place - 1) ns)) read)

pub all_read : {ts : List (List ℕ)} {ns : List ℕ} {us : List (ℕ × List ℕ)} {n : ℕ} → Sofar ts ns us n → us ≡ [] → Ok ns ≡ numbers 1 ts
all_read {ts} {ns} {us} {n} s e = none s.others (sym s.left ∙ e) s.room s.is
  where
    none : (vs : List (List ℕ)) → placed s.place vs ≡ [] → s.place - 1 + length vs ≡ n → numbers 1 ts ≡ front (take (s.place - 1) ns) (numbers s.place vs) → Ok ns ≡ numbers 1 ts
    none [] h r i = sym (i ∙ ap Ok (append-nil _ ∙ take_all (s.place - 1) ns (omega (arith, s.long, r))))
    none (v ∷ vs) h r i = absurd (omega (arith, ap length h))

-- the count comes first: m is how many fields a reader has left, and n how many are wanted
module _ (ts : List (List ℕ)) {us : List (ℕ × List ℕ)} (e : us ≡ placed 1 ts) {m : ℕ} (l : m ≡ length us) where
  same : m ≡ length ts
  same = omega (arith, l, ap length e, length-placed 1 ts)

  pub count_agrees : {n : ℕ} {r : Result (List ℕ) Refusal} → m ≡ n → r ≡ numbers 1 ts → r ≡ counted n ts
  count_agrees h e = e ∙ sym (cond-true _ _ _ (eq-eqb _ _ (sym same ∙ h)))

  pub count_differs : {n : ℕ} → (m ≡ n → ⊥) → Err (FieldCount (m + 1)) ≡ counted n ts
  count_differs h = sym (cond-false _ _ _ (ne_eqb _ _ (λ x. h (same ∙ x))) ∙ ap (λ x. Err (FieldCount (x + 1))) (sym same))
