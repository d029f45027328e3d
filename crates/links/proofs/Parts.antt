-- Causes in two parts, the later after the first.
use Rattle.std.proofs.Common.{◌≡◌, ℕ, Bool, true, false, ◌&&◌, ◌||◌, eqb, ltb, List, [], ◌∷◌, ◌++◌, Some, None, Option, sym, refl, ap, ◌∙◌, arith}
use Rattle.std.proofs.lemmas.Bool.{and_parts, cond-false}
use Rattle.std.specs.List.{slice_get}
use Rattle.page.specs.Answers.{as_row}
use Rattle.page.specs.declared.answer.Row.{Row}
use Rattle.semantics.specs.Causes.{Cause, first_of, or_else, told, when}
use Rattle.semantics.specs.OpenLines.{is_step, link_causes, task_at}
use Rattle.semantics.specs.Orders.{Relation}
use Rattle.semantics.specs.Plans.{both_primitive, primitive_at}
use Rattle.semantics.specs.Tasks.{adds_of, needs_of, Task}
use Rattle.semantics.specs.declared.link.Link.{Link}
use Rattle.semantics.proofs.Searches.{numbered}
use Rattle.links.specs.Parts.{end_causes, ends, first_cause, is_full, or_later, room_causes}

-- a cause of the first part answers, and is no 0
one_first : (n : ℕ) (o : Option (ℕ × ℕ × ℕ)) (rest : Row) (later : Option Row) (w : Row) → ((v : Row) → later ≡ Some v → rest ≡ v) → or_later n o later ≡ Some w → or_else n o rest ≡ w
one_first n None rest later w f e = f w e
one_first n (Some v) rest later w f e = cc

first_answers : (cs ds : List Cause) (n : ℕ) (w : Row) → first_cause cs ≡ Some w → first_of (cs ++ ds) n ≡ w
first_answers [] ds n w e = let k : ⊥ = grind arith in absurd k
first_answers (r ∷ cs) ds n w e = one_first r.0 r.1 (first_of (cs ++ ds) n) (first_cause cs) w (first_answers cs ds n) e

one_code : (n : ℕ) (o : Option (ℕ × ℕ × ℕ)) (later : Option Row) (w : Row) → ltb 0 n ≡ true → (later ≡ Some w → eqb w.code 0 ≡ false) → or_later n o later ≡ Some w → eqb w.code 0 ≡ false
one_code n None later w h f e = f e
one_code n (Some v) later w h f e = let k : w.code ≡ n = cc in grind arith

first_refuses : (cs : List Cause) (w : Row) → numbered cs ≡ true → first_cause cs ≡ Some w → eqb w.code 0 ≡ false
first_refuses [] w h e = let k : ⊥ = grind arith in absurd k
first_refuses (r ∷ cs) w h e = let p = and_parts (ltb 0 r.0) (numbered cs) h in one_code r.0 r.1 (first_cause cs) w p.0 (first_refuses cs w p.1) e

-- where no cause of the first part applies, the second part answers
one_later : (n : ℕ) (o : Option (ℕ × ℕ × ℕ)) (rest : Row) (later : Option Row) → or_later n o later ≡ None → (o ≡ None) × (later ≡ None)
one_later n None rest later e = (refl, e)
one_later n (Some v) rest later e = let k : ⊥ = grind arith in absurd k

later_answers : (cs ds : List Cause) (n : ℕ) → first_cause cs ≡ None → first_of (cs ++ ds) n ≡ first_of ds n
later_answers [] ds n e = refl
later_answers (r ∷ cs) ds n e =
    let p = one_later r.0 r.1 (first_of (cs ++ ds) n) (first_cause cs) e in
    ap (λ (o : Option (ℕ × ℕ × ℕ)). or_else r.0 o (first_of (cs ++ ds) n)) p.0 ∙ later_answers cs ds n p.1

and_grouped : (p q r : Bool) → ((p && q) && r) ≡ (p && (q && r))
and_grouped true q r = refl
and_grouped false q r = refl

steps_named : (p a c n : Bool) (given wanted : Option ℕ) → None ≡ first_cause (ends p a c n given wanted) → (p ≡ true) × (c ≡ true)
steps_named false a c n given wanted e = let k : ⊥ = grind arith in absurd k
steps_named true false c n given wanted e = let k : ⊥ = grind arith in absurd k
steps_named true true false n given wanted e = let k : ⊥ = grind arith in absurd k
steps_named true true true n given wanted e = (refl, refl)

-- ---- L in two parts

module _ (ts : List Task) (ss : List (Option ℕ)) (ls : List Link) (R : Relation) (limit : ℕ) (l : Link) where
  -- the second part, as the rules have it
  abbrev rest : List Cause
  rest =
      (10, when (is_full limit ls l))
      ∷ (11, when (eqb l.producer l.consumer || (primitive_at ts ss l.producer && (primitive_at ts ss l.consumer && R l.consumer l.producer))))
      ∷ []

  -- a link whose fields name nothing that could be linked is refused, and nothing changes
  pub link_refused : {X : Type 0} (new old : X) (w : Row) → Some w ≡ first_cause (end_causes ts ss l)
      → (w ≡ first_of (link_causes ts ss ls R limit l) 0) × (old ≡ told w new old)
  link_refused new old w e = (sym (first_answers (end_causes ts ss l) rest 0 w (sym e)), sym (cond-false (eqb w.code 0) _ _ (first_refuses (end_causes ts ss l) w refl (sym e))))

  -- where its fields name something, its two steps are there
  pub steps_passed : None ≡ first_cause (end_causes ts ss l) → (is_step ss l.producer ≡ true) × (is_step ss l.consumer ≡ true)
  steps_passed e = steps_named (is_step ss l.producer) _ (is_step ss l.consumer) _ (slice_get (adds_of (task_at ts ss l.producer)) l.add) (slice_get (needs_of (task_at ts ss l.consumer)) l.need) e

  -- any other is answered by what is there already
  pub link_passed : (b : Bool) → b ≡ both_primitive ts ss l → None ≡ first_cause (end_causes ts ss l)
      → first_of (room_causes ls R limit l b) 0 ≡ first_of (link_causes ts ss ls R limit l) 0
  link_passed b s e =
      ap (λ (c : Bool). first_of (room_causes ls R limit l c) 0) s
      ∙ ap (λ (c : Bool). or_else 10 (when (is_full limit ls l)) (or_else 11 (when (eqb l.producer l.consumer || c)) (as_row 0 0 0 0)))
      (and_grouped (primitive_at ts ss l.producer) (primitive_at ts ss l.consumer) (R l.consumer l.producer))
      ∙ sym (later_answers (end_causes ts ss l) rest 0 (sym e))
