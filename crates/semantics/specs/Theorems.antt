-- The theorems of orders and plans.
use Rattle.std.specs.Prelude.{◌≡◌, ℕ, ◌+◌, true, ◌⊎◌, ◌↔◌, List, [], length, Some, None, ◌≢◌}
use Rattle.std.specs.List.{slice_get}
use Rattle.semantics.specs.Closures.{Chained, Listed, try_all}
use Rattle.semantics.specs.Decomposing.{decompose_step, Inherits, links_after, New, passed_down, renumbered, steps_after}
use Rattle.semantics.specs.Facts.{CanTake, facts_after, Taken}
use Rattle.semantics.specs.Methods.{Fits, Method}
use Rattle.semantics.specs.Orders.{Earlier, Holds, In, Permitted, put, Relation, Smallest, Strict, Transitive}
use Rattle.semantics.specs.Plans.{Executable, Framed, Linked, Plan, PrimitivePlan, Protects, Sound, steps_of, task_of, Threat}
use Rattle.semantics.specs.States.{plan_step}
use Rattle.semantics.specs.Tasks.{Task}
use Rattle.semantics.specs.declared.link.Link.{Link}

-- The formula of `put` gives the smallest transitive relation that holds the old pairs and the new one, and no other relation is that.
pub record PutIsSmallest : Type 0 where
  pub smallest : (R : Relation) (a b : ℕ) → Transitive R → Smallest R a b (put R a b)
  pub only : (R : Relation) (a b : ℕ) (S : Relation) → Transitive R → Smallest R a b S → (x y : ℕ) → S x y ≡ put R a b x y

-- the pairs of a relation, and those of a list
abbrev pub AndListed : Relation → List (ℕ × ℕ) → ℕ → ℕ → Type 0
AndListed R ps x y = Holds R x y ⊎ Listed x y ps

-- Pairs put one by one into a strict order give the smallest transitive relation of them all, and are refused exactly where that
-- relation has a step before itself.
pub record PutsAreTheClosure : Type 0 where
  pub closure : (R : Relation) (ps : List (ℕ × ℕ)) (S : Relation) → Strict R → try_all (Some R) ps ≡ Some S
      → Strict S × ((x y : ℕ) → Holds S x y ↔ Chained (AndListed R ps) x y)
  pub circle : (R : Relation) (ps : List (ℕ × ℕ)) → Strict R → (try_all (Some R) ps ≡ None) ↔ ((x : ℕ) × Chained (AndListed R ps) x x)

-- In an executable plan, whatever way steps are taken by order alone, the next one finds all its needs among the facts.
abbrev pub NeedsAreMet : Type 0
NeedsAreMet = (ts : List Task) (p : Plan) → Sound ts p → Executable ts p → (done : List ℕ) → Taken p done
    → (s : ℕ) (t : Task) → task_of ts p s ≡ Some t → CanTake p done s → (f : ℕ) → In f t.needs → facts_after ts p done f ≡ true

-- While a step is untaken, some step can be taken.
abbrev pub SomeStepIsNext : Type 0
SomeStepIsNext = (ts : List Task) (p : Plan) → Sound ts p → (done : List ℕ)
    → (x : ℕ) → In x (steps_of p) → (In x done → ⊥) → (s : ℕ) × CanTake p done s

-- A threat comes true: some permitted order has the threat between the link's producer and its consumer.
abbrev pub ThreatComesTrue : Type 0
ThreatComesTrue = (ts : List Task) (p : Plan) → Sound ts p → PrimitivePlan ts p
    → (l : Link) (f : ℕ) → Linked l p.links → Protects ts p l f → (s : ℕ) → Threat ts p l f s
    → (order : List ℕ) × Permitted (steps_of p) (Holds p.before) order × Earlier order l.producer s × Earlier order s l.consumer

-- What a decomposition of step s by a fitting method gives. The method's steps are numbered from n, the next step number.
pub record Decomposes (ts : List Task) (p : Plan) (s : ℕ) (m : Method) (q : Plan) : Type 0 where
  -- a sound plan stays sound: every link fits, the order is strict
  pub sound : Sound ts q
  -- no link is lost: each arrives as it was passed down, and the method's links join
  pub passed : (l : Link) → Linked l p.links → Linked (passed_down (length p.steps) s m l) q.links
  pub joined : (l : Link) → Linked l m.links → Linked (renumbered (length p.steps) l) q.links
  -- no link is multiplied or made up: each is one that was passed down, or the method's
  pub no_other : (k : Link) → Linked k q.links
      → ((l : Link) × Linked l p.links × (k ≡ passed_down (length p.steps) s m l)) ⊎ ((l : Link) × Linked l m.links × (k ≡ renumbered (length p.steps) l))
  -- no pair between steps that stay is lost
  pub kept : (x y : ℕ) → Holds p.before x y → (x ≢ s) → (y ≢ s) → Holds q.before x y
  -- what was before s is before each new step, and what was after s is after each
  pub before_new : (x y : ℕ) → Holds p.before x s → New (length p.steps) (length m.steps) y → Holds q.before x y
  pub after_new : (x y : ℕ) → New (length p.steps) (length m.steps) x → Holds p.before s y → Holds q.before x y
  -- and nothing else is ordered than follows from the pairs kept, inherited, of the method and of the links
  pub order : (x y : ℕ) → Holds q.before x y ↔ Chained (Inherits ts (Holds p.before) (length p.steps) s m q.steps q.links) x y

-- A link into need j of s arrives at the step and need that the method names for j, a link out of add i likewise, and an end
-- at another step stays.
pub record Arrives (n s : ℕ) (m : Method) : Type 0 where
  pub consumer : (l : Link) (a k : ℕ) → l.consumer ≡ s → m.needs_go l.need ≡ Some (a, k)
      → ((passed_down n s m l).consumer ≡ n + a) × ((passed_down n s m l).need ≡ k)
  pub producer : (l : Link) (a k : ℕ) → l.producer ≡ s → m.adds_go l.add ≡ Some (a, k)
      → ((passed_down n s m l).producer ≡ n + a) × ((passed_down n s m l).add ≡ k)
  pub other_consumer : (l : Link) → (l.consumer ≢ s) → ((passed_down n s m l).consumer ≡ l.consumer) × ((passed_down n s m l).need ≡ l.need)
  pub other_producer : (l : Link) → (l.producer ≢ s) → ((passed_down n s m l).producer ≡ l.producer) × ((passed_down n s m l).add ≡ l.add)

-- A decomposition by a fitting method gives such a plan, or is refused exactly where a step would be before itself.
pub record Decomposition : Type 0 where
  pub gives : (ts : List Task) (p : Plan) (s : ℕ) (m : Method) (q : Plan) → Sound ts p → Fits ts m → slice_get p.steps s ≡ Some (Some m.task)
      → decompose_step ts p s m ≡ Some q → Decomposes ts p s m q
  pub arrives : (n s : ℕ) (m : Method) → Arrives n s m
  pub refused : (ts : List Task) (p : Plan) (s : ℕ) (m : Method) → Sound ts p
      → (decompose_step ts p s m ≡ None)
      ↔ ((x : ℕ) × Chained (Inherits ts (Holds p.before) (length p.steps) s m (steps_after p s m) (links_after p s m)) x x)

-- In which sequence steps are listed orders nothing.
pub record SequenceOrdersNothing : Type 0 where
  -- a step that is told to a plan comes after init and before goal, and is ordered with no other step
  pub new_step : (ts : List Task) (p : Plan) (t : ℕ) → Sound ts p → Framed p
      → (x : ℕ) → (Holds (plan_step p t).before x (length p.steps) → x ≡ 0) × (Holds (plan_step p t).before (length p.steps) x → x ≡ 1)
  -- of two steps told one after the other neither is before the other
  pub two_steps : (ts : List Task) (p : Plan) (t u : ℕ) → Sound ts p → Framed p
      → (Holds (plan_step (plan_step p t) u).before (length p.steps) (length p.steps + 1) → ⊥)
      × (Holds (plan_step (plan_step p t) u).before (length p.steps + 1) (length p.steps) → ⊥)
  -- where a method has neither order nor links, and no link touches the step that it decomposes, no new step is before another
  pub decomposed : (ts : List Task) (p : Plan) (s : ℕ) (m : Method) (q : Plan) → Sound ts p → Fits ts m → slice_get p.steps s ≡ Some (Some m.task)
      → decompose_step ts p s m ≡ Some q → ((a b : ℕ) → Holds m.before a b → ⊥) → m.links ≡ []
      → ((l : Link) → Linked l p.links → (l.producer ≢ s) × (l.consumer ≢ s))
      → (x y : ℕ) → New (length p.steps) (length m.steps) x → New (length p.steps) (length m.steps) y → Holds q.before x y → ⊥
