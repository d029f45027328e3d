-- J accepts every executable plan.
use Rattle.std.proofs.Common.{◌≡◌, ℕ, Bool, true, false, cond, not, ◌&&◌, eqb, List, [], ◌∷◌, length, Some, None, Option, sym, refl, ap, ◌∙◌, inl, inr, arith, is_some}
use Rattle.std.proofs.lemmas.Bool.{and_from, cond-true, eq-eqb}
use Rattle.line.specs.declared.command.Command.TheVariants.{Judge}
use Rattle.page.specs.declared.answer.Row.{Row}
use Rattle.semantics.specs.Causes.{also, first_found}
use Rattle.semantics.specs.Decomposing.{upfrom}
use Rattle.semantics.specs.Laws.{JudgedExactly}
use Rattle.semantics.specs.Orders.{In}
use Rattle.semantics.specs.PlanLines.{at_label, compound_step, lower_of, lowest_link, lowest_with, need_unlinked, producer, threat, threatens, unlinked_at, with_ends}
use Rattle.semantics.specs.Plans.{Executable, Linked, Plan, Sound, steps_of, task_of}
use Rattle.semantics.specs.Promise.{state}
use Rattle.semantics.specs.Rules.{causes, number_told, outside}
use Rattle.semantics.specs.States.{State}
use Rattle.semantics.specs.Tasks.{is_primitive, needs_of, Task}
use Rattle.semantics.specs.declared.link.Link.{Link}
use Rattle.semantics.specs.declared.phase.Phase.{Phase}
use Rattle.semantics.specs.declared.phase.Phase.TheVariants.{Refine}
use Rattle.semantics.proofs.Careful.{careful, none_returned, tested_threat}
use Rattle.semantics.proofs.Decomposing.{upfrom_in}
use Rattle.semantics.proofs.Histories.{in_step, lawful}
use Rattle.semantics.proofs.Inherited.{nth_there}
use Rattle.semantics.proofs.Orders.{is_false}
use Rattle.semantics.proofs.Searches.{all_clear, none_such}

found_nothing : {X : Type 0} (find : ℕ → Option X) (xs : List ℕ) → ((x : ℕ) → In x xs → find x ≡ None) → first_found find xs ≡ None
found_nothing find [] h = refl
found_nothing find (x ∷ xs) h = ap (λ o. also x o (first_found find xs)) (h x (inl refl)) ∙ found_nothing find xs (λ y i. h y (inr i))

lowest_nothing : (test : Link → Bool) (ls : List Link) → ((l : Link) → Linked l ls → test l ≡ false) → lowest_link test ls ≡ None
lowest_nothing test [] h = refl
lowest_nothing test (l ∷ ls) h = ap (λ b. lowest_with b l (lowest_link test ls)) (h l (inl refl)) ∙ lowest_nothing test ls (λ k i. h k (inr i))

lower_some : (x : ℕ) (o : Option ℕ) → is_some (lower_of x o) ≡ true
lower_some x None = refl
lower_some x (Some y) = refl

-- a linked need has a producer
supplied_some : (ls : List Link) (s j : ℕ) (l : Link) → Linked l ls → l.consumer ≡ s → l.need ≡ j → is_some (producer ls s j) ≡ true
supplied_some [] s j l i e f = absurd i
supplied_some (k ∷ ks) s j l (inl q) e f =
    let c : (eqb k.consumer s && eqb k.need j) ≡ true = and_from _ _ (eq-eqb _ _ (ap (λ (z : Link). z.consumer) (sym q) ∙ e)) (eq-eqb _ _ (ap (λ (z : Link). z.need) (sym q) ∙ f)) in
    ap is_some (cond-true (eqb k.consumer s && eqb k.need j) _ _ c) ∙ lower_some k.producer (producer ks s j)
supplied_some (k ∷ ks) s j l (inr i) e f = at (eqb k.consumer s && eqb k.need j) (supplied_some ks s j l i e f)
  where
    at : (b : Bool) → is_some (producer ks s j) ≡ true → is_some (cond b (lower_of k.producer (producer ks s j)) (producer ks s j)) ≡ true
    at true h = lower_some k.producer (producer ks s j)
    at false h = h

module _ (ts : List Task) (p : Plan) (sound : Sound ts p) (x : Executable ts p) where
  no_compound : compound_step ts p ≡ None
  no_compound = none_returned _ (none_such (λ s. not (is_primitive (task_of ts p s))) (steps_of p)
      (λ s i. let t = sound.tasks_known s i in ap (λ o. not (is_primitive o)) t.1 ∙ ap not (x.all_primitive s t.0 t.1)))

  no_open : (s : ℕ) → In s (steps_of p) → unlinked_at ts p s ≡ None
  no_open s i =
      let t = sound.tasks_known s i in
      let needs : needs_of (task_of ts p s) ≡ t.0.needs = ap needs_of t.1 in
      none_such (λ j. not (is_some (producer p.links s j))) (upfrom 0 (length (needs_of (task_of ts p s))))
      (λ j k.
      let b = (upfrom_in 0 (length (needs_of (task_of ts p s))) j).0 k in
      let f = nth_there t.0.needs j (let z = ap length needs in omega (arith, b.1, z)) in
      let l = x.all_linked s t.0 t.1 j f.0 f.1 in
      ap not (supplied_some p.links s j l.0 l.1 l.2 l.3))

  no_threat_at : (s : ℕ) → lowest_link (threatens ts p s) p.links ≡ None
  no_threat_at s = lowest_nothing (threatens ts p s) p.links
      (λ l i. let f = sound.links_fit l i in is_false (threatens ts p s l) (λ h. x.no_threat l f.0 i f.1 s (tested_threat ts p l f.0 s f.1 h)))

  nothing_open : need_unlinked ts p ≡ None
  nothing_open = ap at_label (found_nothing (unlinked_at ts p) (steps_of p) no_open)

  nothing_threatened : threat ts p ≡ None
  nothing_threatened = ap with_ends (found_nothing (λ s. lowest_link (threatens ts p s) p.links) (steps_of p) (λ s i. no_threat_at s))

pub judged_exactly : JudgedExactly
judged_exactly capacity least most told =
    let st : State = state capacity told in
    let good = (in_step capacity told).good in (
      (careful capacity).allowed st (lawful st good) Judge,
      λ h. ap (λ (r : Row). r.code) (all_clear (causes capacity st Judge) (number_told st Judge)
          (ap (λ (ph : Phase). outside ph (Refine ∷ [])) h.0, (no_compound st.tasks st.plan good.sound h.1, (nothing_open st.tasks st.plan good.sound h.1, (nothing_threatened st.tasks st.plan good.sound h.1, tt))))),
    )
