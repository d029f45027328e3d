-- The lowest cause that applies answers; and what a domain and a plan hold.
use Rattle.std.proofs.Common.{◌≡◌, ℕ, ◌<◌, Bool, true, ◌&&◌, ltb, List, [], ◌∷◌, Some, None, Option, sym, refl, ◌∙◌, inl, inr, ⊎_elim, arith}
use Rattle.std.proofs.lemmas.Bool.{and_parts, ltb-true}
use Rattle.line.specs.declared.command.Command.TheVariants.{AppendAdd, AppendDelete, AppendNeed, CloseMethod, Decompose, EndPhase, Judge, NewCompound, NewPrimitive, NewStep, OpenMethod, PutLink, PutOrder, RouteAdd, RouteNeed, Take}
use Rattle.semantics.specs.Causes.{Cause, first_of, or_else}
use Rattle.semantics.specs.Laws.{AlwaysFramed, Applies, ByLowest, LowestCause, OnlyFitting}
use Rattle.semantics.specs.Rules.{causes, number_told}
use Rattle.semantics.proofs.Histories.{in_step}

-- the numbers rise, from above m
abbrev rising : ℕ → List Cause → Bool
rising m [] = true
rising m (r ∷ rs) = ltb m r.0 && rising r.0 rs

above : (m : ℕ) (rs : List Cause) → rising m rs ≡ true → (n : ℕ) (v : ℕ × ℕ × ℕ) → Applies n v rs → m < n
above m [] h n v i = absurd i
above m (r ∷ rs) h n v i =
    let p = and_parts (ltb m r.0) (rising r.0 rs) h in
    let k = ltb-true m r.0 p.0 in
    let ih = above r.0 rs p.1 n v in
    ⊎_elim (λ e. let q = e.0 in omega arith) (λ j. let b = ih j in omega arith) i

by_lowest : (m : ℕ) (rs : List Cause) (told : ℕ) → rising m rs ≡ true → ByLowest rs told (first_of rs told)
by_lowest m [] told h = record { accepted = λ e. (λ n v i. i, refl, refl, refl); applies = λ e. absurd (e refl); lowest = λ n v i. absurd i }
by_lowest m (r ∷ rs) told h = at (by_lowest r.0 rs told (and_parts (ltb m r.0) (rising r.0 rs) h).1) r.1 refl
  where
    at : ByLowest rs told (first_of rs told) → (o : Option (ℕ × ℕ × ℕ)) → r.1 ≡ o → ByLowest (r ∷ rs) told (or_else r.0 o (first_of rs told))
    at ih None e =
        let out : (n : ℕ) (v : ℕ × ℕ × ℕ) → (r.0 ≡ n) × (r.1 ≡ Some v) → ⊥ = λ n v i. let q : ◌≡◌ {A = Option (ℕ × ℕ × ℕ)} None (Some v) = sym e ∙ i.1 in grind arith in
        record {
          accepted = λ z. let a = ih.accepted z in (λ n v i. ⊎_elim (out n v) (a.0 n v) i, a.1, a.2, a.3);
          applies = λ z. inr (ih.applies z);
          lowest = λ n v i. ⊎_elim (λ k. absurd (out n v k)) (ih.lowest n v) i;
        }
    at ih (Some v) e =
        let p = and_parts (ltb m r.0) (rising r.0 rs) h in
        let k = ltb-true m r.0 p.0 in
        record {
          accepted = λ z. let w : ⊥ = omega arith in absurd w;
          applies = λ z. inl (refl, e);
          lowest = λ n u i. ⊎_elim (λ q. let x = q.0 in omega arith) (λ j. let b = above r.0 rs p.1 n u j in omega arith) i;
        }

pub lowest_cause : LowestCause
lowest_cause capacity st NewPrimitive = by_lowest 0 (causes capacity st NewPrimitive) (number_told st NewPrimitive) refl
lowest_cause capacity st NewCompound = by_lowest 0 (causes capacity st NewCompound) (number_told st NewCompound) refl
lowest_cause capacity st (AppendNeed t f) = by_lowest 0 (causes capacity st (AppendNeed t f)) (number_told st (AppendNeed t f)) refl
lowest_cause capacity st (AppendAdd t f) = by_lowest 0 (causes capacity st (AppendAdd t f)) (number_told st (AppendAdd t f)) refl
lowest_cause capacity st (AppendDelete t f) = by_lowest 0 (causes capacity st (AppendDelete t f)) (number_told st (AppendDelete t f)) refl
lowest_cause capacity st EndPhase = by_lowest 0 (causes capacity st EndPhase) (number_told st EndPhase) refl
lowest_cause capacity st (OpenMethod t) = by_lowest 0 (causes capacity st (OpenMethod t)) (number_told st (OpenMethod t)) refl
lowest_cause capacity st (NewStep t) = by_lowest 0 (causes capacity st (NewStep t)) (number_told st (NewStep t)) refl
lowest_cause capacity st (PutOrder p q) = by_lowest 0 (causes capacity st (PutOrder p q)) (number_told st (PutOrder p q)) refl
lowest_cause capacity st (PutLink p i q j) = by_lowest 0 (causes capacity st (PutLink p i q j)) (number_told st (PutLink p i q j)) refl
lowest_cause capacity st (RouteNeed j s k) = by_lowest 0 (causes capacity st (RouteNeed j s k)) (number_told st (RouteNeed j s k)) refl
lowest_cause capacity st (RouteAdd i s k) = by_lowest 0 (causes capacity st (RouteAdd i s k)) (number_told st (RouteAdd i s k)) refl
lowest_cause capacity st CloseMethod = by_lowest 0 (causes capacity st CloseMethod) (number_told st CloseMethod) refl
lowest_cause capacity st (Decompose s m) = by_lowest 0 (causes capacity st (Decompose s m)) (number_told st (Decompose s m)) refl
lowest_cause capacity st Judge = by_lowest 0 (causes capacity st Judge) (number_told st Judge) refl
lowest_cause capacity st (Take s) = by_lowest 0 (causes capacity st (Take s)) (number_told st (Take s)) refl

-- what a domain and a plan hold after every history
pub only_fitting : OnlyFitting
only_fitting capacity told = let i = in_step capacity told in (i.good.fit, i.good.sound)

pub always_framed : AlwaysFramed
always_framed capacity told = (in_step capacity told).good.framed
