-- The plan never has more step numbers than the capacity.
use Rattle.std.proofs.Common.{◌≡◌, ℕ, zero, suc, ◌+◌, ◌<◌, ◌≤◌, false, List, [], ◌∷◌, map, length, set, Some, None, Ok, Err, Option, Result, sym, refl, ap, ◌∙◌, subst, ⊎_elim, arith, length-append, length-set}
use Rattle.std.proofs.lemmas.Bool.{leb-false, ltb-false, or_parts}
use Rattle.line.specs.Parse.{parsed}
use Rattle.line.specs.declared.command.Command.{Command}
use Rattle.line.specs.declared.command.Command.TheVariants.{AppendAdd, AppendDelete, AppendNeed, CloseMethod, Decompose, EndPhase, Judge, NewCompound, NewPrimitive, NewStep, OpenMethod, PutLink, PutOrder, RouteAdd, RouteNeed, Take}
use Rattle.line.specs.declared.command.Refusal.{Refusal}
use Rattle.semantics.specs.Closures.{try_all}
use Rattle.semantics.specs.Decomposing.{decompose_step, links_after, new_pairs, plan_with, steps_after}
use Rattle.semantics.specs.Methods.{Method}
use Rattle.semantics.specs.Orders.{dropped, Relation}
use Rattle.semantics.specs.PlanLines.{too_many}
use Rattle.semantics.specs.Plans.{Plan}
use Rattle.semantics.specs.Promise.{History, state}
use Rattle.semantics.specs.Rules.{causes, row_for, state_for, verdict}
use Rattle.semantics.specs.States.{next, State}
use Rattle.semantics.specs.Tasks.{Task}
use Rattle.semantics.specs.declared.phase.Phase.TheVariants.{Initial, MethodOpen}
use Rattle.semantics.proofs.Careful.{at_decompose, numbered_all}
use Rattle.semantics.proofs.InStep.{plan_x}
use Rattle.semantics.proofs.Searches.{Clear, inside, when_none}

steps_made : (ts : List Task) (p q : Plan) (s : ℕ) (m : Method) → decompose_step ts p s m ≡ Some q → q.steps ≡ steps_after p s m
steps_made ts p q s m e = at (try_all (Some (dropped p.before s)) (new_pairs ts p s m)) e
  where
    at : (o : Option Relation) → plan_with p s m o ≡ Some q → q.steps ≡ steps_after p s m
    at None k = let w : ⊥ = grind arith in absurd w
    at (Some R) k = let is : record { steps = steps_after p s m; links = links_after p s m; before = R } ≡ q = cc in ap (λ (x : Plan). x.steps) (sym is)

pub length-map : (ks : List ℕ) → length (map Some ks) ≡ length ks
length-map [] = refl
length-map (k ∷ ks) = ap suc (length-map ks)

module _ (capacity : ℕ) (st : State) (fits : length st.plan.steps ≤ capacity) where
  fits_step : (t : ℕ) → Clear (causes capacity st (NewStep t)) → length (next st (NewStep t)).plan.steps ≤ capacity
  fits_step t c = ⊎_elim
      (λ e. rw e fits)
      (λ z. ⊎_elim
      (λ e. let k = leb-false _ _ (when_none _ c.1.1.1.0) in
      let k' : length st.plan.steps < capacity = rw e at k in
      rw e (simp length-append (omega arith)))
      (λ y. absurd y) z)
      (inside st.phase (MethodOpen ∷ Initial ∷ []) c.0)

  fits_decompose : (s m : ℕ) → Clear (causes capacity st (Decompose s m)) → length (next st (Decompose s m)).plan.steps ≤ capacity
  fits_decompose s m c =
      let a = at_decompose capacity st s m c in
      let n : Method = a.1.0 in
      let q : Plan = a.1.3.0 in
      let is : (next st (Decompose s m)).plan ≡ q = plan_x st s m a.0 n a.1.1 q a.1.3.1 in
      let made : q.steps ≡ steps_after st.plan s n = steps_made st.tasks st.plan q s n a.1.3.1 in
      let few : too_many capacity st.plan s (Some n) ≡ false = ap (too_many capacity st.plan s) (sym a.1.1) ∙ when_none _ c.1.1.1.0 in
      let less = ltb-false capacity (length st.plan.steps + length n.steps) (or_parts _ _ few).0 in
      let count : length (steps_after st.plan s n) ≡ length st.plan.steps + length n.steps =
      length-append (set st.plan.steps s None) (map Some n.steps) ∙ (λ i. length-set st.plan.steps s None i + length-map n.steps i) in
      let all : length (next st (Decompose s m)).plan.steps ≡ length st.plan.steps + length n.steps = ap (λ (p : Plan). length p.steps) is ∙ (ap length made ∙ count) in
      omega arith

  same_plan : (p q : ℕ) → (next st (PutOrder p q)).plan.steps ≡ st.plan.steps
  same_plan p q = grind arith

  same_plan_link : (p i q j : ℕ) → (next st (PutLink p i q j)).plan.steps ≡ st.plan.steps
  same_plan_link p i q j = grind arith

  pub fits_next : (l : Command) → Clear (causes capacity st l) → length (next st l).plan.steps ≤ capacity
  fits_next NewPrimitive c = fits
  fits_next NewCompound c = fits
  fits_next (AppendNeed t f) c = fits
  fits_next (AppendAdd t f) c = fits
  fits_next (AppendDelete t f) c = fits
  fits_next EndPhase c = fits
  fits_next (OpenMethod t) c = fits
  fits_next (NewStep t) c = fits_step t c
  fits_next (PutOrder p q) c = subst (λ (os : List (Option ℕ)). length os ≤ capacity) (sym (same_plan p q)) fits
  fits_next (PutLink p i q j) c = subst (λ (os : List (Option ℕ)). length os ≤ capacity) (sym (same_plan_link p i q j)) fits
  fits_next (RouteNeed j s k) c = fits
  fits_next (RouteAdd i s k) c = fits
  fits_next CloseMethod c = fits
  fits_next (Decompose s m) c = fits_decompose s m c
  fits_next Judge c = fits
  fits_next (Take s) c = fits

  fits_after : (l : Command) (n : ℕ) → (verdict capacity st l).code ≡ n → length (state_for st (Ok l) n).plan.steps ≤ capacity
  fits_after l zero e = fits_next l (numbered_all capacity st l e)
  fits_after l (suc n) e = fits

  fits_line : (r : Result Command Refusal) → length (state_for st r (row_for capacity st r).code).plan.steps ≤ capacity
  fits_line (Err e) = fits
  fits_line (Ok c) = fits_after c (verdict capacity st c).code refl

pub few_steps : (capacity : ℕ) → 2 ≤ capacity → (told : History) → length (state capacity told).plan.steps ≤ capacity
few_steps capacity least [] = least
few_steps capacity least (line ∷ told) = fits_line capacity (state capacity told) (few_steps capacity least told) (parsed line)
