-- The steps, the links and the order of a plan after an exchange are those of the rules.
use Rattle.std.proofs.Common.{◌≡◌, ℕ, ◌+◌, ◌≤◌, Bool, true, false, cond, not, ◌||◌, ltb, List, [], ◌∷◌, ◌++◌, length, Some, None, Option, sym, ap, ◌∙◌, arith}
use Rattle.std.proofs.lemmas.List.{length-take-le}
use Rattle.std.proofs.lemmas.Bool.{eq-eqb, le-ltb, lt-ltb, ltb-false, or_parts}
use Rattle.fixed.specs.Items.{items}
use Rattle.fixed.specs.declared.list.Fixed.{Fixed}
use Rattle.methods.specs.Meaning.{method}
use Rattle.std.proofs.lemmas.Option.{slice_get_within}
use Rattle.std.specs.List.{slice_get}
use Rattle.page.specs.Answers.{as_row}
use Rattle.page.specs.declared.answer.Row.{Row}
use Rattle.semantics.specs.Causes.{first_of, nameless, or_else, when}
use Rattle.semantics.specs.OpenLines.{there}
use Rattle.semantics.specs.PlanLines.{circular, decompose_causes, other_task, too_many}
use Rattle.order.specs.Puts.{put_each}
use Rattle.order.proofs.Tries.{all_tries}
use Rattle.plan.specs.Meaning.{plan, present}
use Rattle.semantics.specs.Closures.{try_all}
use Rattle.semantics.specs.Decomposing.{link_pairs, links_after, new_pairs, pairs_of, shifted, steps_after}
use Rattle.semantics.specs.Methods.{Method}
use Rattle.semantics.specs.Orders.{dropped, Relation}
use Rattle.semantics.specs.Plans.{Plan, steps_of}
use Rattle.semantics.specs.Tasks.{Task}
use Rattle.semantics.specs.declared.link.Link.{Link}
use Rattle.decomposing.specs.Exchanges.{inherited, numbers}
use Rattle.decomposing.specs.Revising.{brought, Revises}
use Rattle.decomposing.specs.Trying.{Tried}
use Rattle.decomposing.specs.declared.exchange.Exchange.{Exchange}
use Rattle.decomposing.specs.declared.exchange.Side.TheVariants.{After, Before}
use Rattle.decomposing.proofs.Lows.{low_new}

-- a list of at most N things holds no more
pub few_items : {T : Type 0} {N : ℕ} (f : Fixed T N) → length (items f) ≤ N
unfolding items
few_items f = let e = length-take-le f.count f.slots (omega (arith, f.within, f.whole)) in omega (arith, f.within)

-- ---- the steps and links

pub revises : (n : ℕ) (p : Plan) (s : ℕ) (m : Method) (ss : List (Option ℕ)) (f : Fixed Link 256) → length p.steps + length m.steps ≤ n
    → ss ≡ steps_after p s m → items f ≡ links_after p s m → Revises n p s m ss (items f)
revises n p s m ss f room steps links =
    let long : length (items f) ≡ length (links_after p s m) = ap length links in
    let few = few_items f in
    record {
      few = λ i. le-ltb n (length p.steps + length m.steps) (omega arith) i || le-ltb 256 (length (links_after p s m)) (omega arith) i;
      steps = steps;
      links = links;
    }

-- ---- the pairs that are put are those of the rules

module _ (n : ℕ) (ts : List Task) (R : Relation) (e : Exchange) (ss : List (Option ℕ)) (ls : List Link) where
  abbrev before : Plan
  before = plan R e.target.now

  abbrev by : Method
  by = method e.method.now

  module _ (rev : Revises n before e.leaving by ss ls) where
    brought_new : brought ts R e ss ls ≡ new_pairs ts before e.leaving by
    brought_new =
        λ i. inherited Before R e.leaving (steps_of before) (numbers e)
        ++ (inherited After R e.leaving (steps_of before) (numbers e)
        ++ (shifted (length before.steps) (pairs_of by)
        ++ link_pairs ts (rev.steps i) (rev.links i)))

    room : length before.steps + length by.steps ≤ n
    room = ltb-false n (length before.steps + length by.steps) (or_parts _ _ rev.few).0

    pub tried_new : (D S : Relation) (ok : Bool) → D ≡ dropped R e.leaving → Tried n D (brought ts R e ss ls) ok S → cond ok (Some S) None ≡ try_all (Some (dropped R e.leaving)) (new_pairs ts before e.leaving by)
    tried_new D S ok drops t =
        all_tries n (dropped R e.leaving) S ok (new_pairs ts before e.leaving by) (t ∙ (λ i. put_each n (drops i) (brought_new i))) (low_new n ts before e.leaving by room)

-- ---- the row of X, once its step and its method are there, the method is the task's, and there is room

abbrev verdict : Bool → Bool → Bool → Bool → Bool → ℕ → Row
verdict step method other many circle number =
    or_else 6 (nameless 1 (step ∷ method ∷ [])) (or_else 7 (when other) (or_else 10 (when many) (or_else 11 (when circle) (as_row 0 number 0 0))))

standing : (o : Option (Option ℕ)) (t : ℕ) → Some t ≡ present o → o ≡ Some (Some t)
standing None t e = absurd (let z : ⊥ = cc in z)
standing (Some o) t e = ap Some (sym e)

module _ (n : ℕ) (ts : List Task) (ms : List Method) (p : Plan) (s k number t : ℕ) (is_step : Some t ≡ present (slice_get p.steps s)) (m : Method) (is_method : Some m ≡ slice_get ms k) (same : t ≡ m.task) (few : too_many n p s (Some m) ≡ false) where
  pub by_circle : (b : Bool) → circular ts p s (Some m) ≡ b → verdict true true false false b number ≡ first_of (decompose_causes n ts ms p s k) number
  by_circle b circle =
      let step : slice_get p.steps s ≡ Some (Some t) = standing (slice_get p.steps s) t is_step in
      let method : ltb k (length ms) ≡ true = lt-ltb k (length ms) (slice_get_within ms k m (sym is_method)) in
      let other : other_task (slice_get p.steps s) (slice_get ms k) ≡ false = (λ i. other_task (step i) (sym is_method i)) ∙ ap not (eq-eqb t m.task same) in
      sym (λ i. verdict (there (step i)) (method i) (other i) ((ap (too_many n p s) (sym is_method) ∙ few) i) ((ap (circular ts p s) (sym is_method) ∙ circle) i) number)
