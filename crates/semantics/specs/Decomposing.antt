-- The plan that a decomposition gives: in set terms, and as it is computed.
use Rattle.std.specs.Prelude.{◌≡◌, ℕ, zero, suc, ◌+◌, ◌<◌, ◌≤◌, Bool, true, false, cond, List, [], ◌∷◌, ◌++◌, map, length, Some, None, Option, ◌==◌, ◌≢◌, slice_set}
use Rattle.std.specs.List.{slice_get}
use Rattle.semantics.specs.Closures.{Pairs, try_all}
use Rattle.semantics.specs.Methods.{Method}
use Rattle.semantics.specs.Orders.{dropped, Holds, Relation}
use Rattle.semantics.specs.Plans.{at_task, both_primitive, Linked, Plan, steps_of, with_links}
use Rattle.semantics.specs.Tasks.{Task}
use Rattle.semantics.specs.declared.link.Link.{Link}

-- step s, of a plan with these steps, has a primitive task
abbrev pub Primitive : List Task → List (Option ℕ) → ℕ → Type 0
Primitive ts ss s = (t : Task) × (at_task ts (slice_get ss s) ≡ Some t) × (t.primitive ≡ true)

-- A link between primitive steps puts its producer before its consumer.
abbrev pub LinkPair : List Task → List (Option ℕ) → Link → Pairs
LinkPair ts ss l x y = (x ≡ l.producer) × (y ≡ l.consumer) × Primitive ts ss x × Primitive ts ss y

-- The end (s, k) of a link moves to the step and label of the entry, where there is one; new steps are numbered from n.
abbrev pub moved_to : ℕ → Option (ℕ × ℕ) → ℕ × ℕ → ℕ × ℕ
moved_to n None sk = sk
moved_to n (Some e) sk = (n + e.0, e.1)

-- it moves only where the test says that it stands at the step that leaves
abbrev pub moved : Bool → ℕ → Option (ℕ × ℕ) → ℕ → ℕ → ℕ × ℕ
moved false n e s k = (s, k)
moved true n e s k = moved_to n e (s, k)

-- A link into need j of s goes to the step and need that the method names for j, a link out of add i likewise; others stay.
abbrev pub passed_down : ℕ → ℕ → Method → Link → Link
passed_down n s m l =
    let from : ℕ × ℕ = moved (l.producer == s) n (m.adds_go l.add) l.producer l.add in
    let to : ℕ × ℕ = moved (l.consumer == s) n (m.needs_go l.need) l.consumer l.need in
    record { producer = from.0; add = from.1; consumer = to.0; need = to.1 }

-- a link of a method whose steps are numbered from n
abbrev pub renumbered : ℕ → Link → Link
renumbered n l = record { producer = n + l.producer; add = l.add; consumer = n + l.consumer; need = l.need }

-- one of k steps numbered from n
abbrev pub New : ℕ → ℕ → ℕ → Type 0
New n k x = (n ≤ x) × (x < n + k)

-- The pairs of a plan whose step s is decomposed by m, before they are made transitive, where `before` is its old order, n its
-- next step number, and ss and ls are the steps and links after it.
pub data Inherits (ts : List Task) (before : ℕ → ℕ → Type 0) (n s : ℕ) (m : Method) (ss : List (Option ℕ)) (ls : List Link) : ℕ → ℕ → Type 0 where
  kept : {x y : ℕ} → before x y → (x ≢ s) → (y ≢ s) → Inherits ts before n s m ss ls x y
  before_new : {x y : ℕ} → before x s → New n (length m.steps) y → Inherits ts before n s m ss ls x y
  after_new : {x y : ℕ} → New n (length m.steps) x → before s y → Inherits ts before n s m ss ls x y
  in_method : (a b : ℕ) → a < length m.steps → b < length m.steps → Holds m.before a b → Inherits ts before n s m ss ls (n + a) (n + b)
  by_link : {x y : ℕ} → (l : Link) → Linked l ls → LinkPair ts ss l x y → Inherits ts before n s m ss ls x y

-- the k numbers from n
abbrev pub upfrom : ℕ → ℕ → List ℕ
upfrom n zero = []
upfrom n (suc k) = n ∷ upfrom (suc n) k

-- x paired with each of some numbers
abbrev pub to_each : ℕ → List ℕ → List (ℕ × ℕ)
to_each x [] = []
to_each x (n ∷ ns) = (x, n) ∷ to_each x ns

-- each of xs that passes the test, paired with each of ns
abbrev pub each_to : (ℕ → Bool) → List ℕ → List ℕ → List (ℕ × ℕ)
each_to test [] ns = []
each_to test (x ∷ xs) ns = cond (test x) (to_each x ns ++ each_to test xs ns) (each_to test xs ns)

-- the pairs turned round
abbrev pub turned : List (ℕ × ℕ) → List (ℕ × ℕ)
turned [] = []
turned (ab ∷ abs) = (ab.1, ab.0) ∷ turned abs

-- a paired with each of some numbers that passes the test
abbrev pub row_pairs : ℕ → (ℕ → Bool) → List ℕ → List (ℕ × ℕ)
row_pairs a test [] = []
row_pairs a test (b ∷ bs) = cond (test b) ((a, b) ∷ row_pairs a test bs) (row_pairs a test bs)

-- the pairs of a relation from some numbers to some others
abbrev pub pairs_among : Relation → List ℕ → List ℕ → List (ℕ × ℕ)
pairs_among R [] bs = []
pairs_among R (a ∷ xs) bs = row_pairs a (R a) bs ++ pairs_among R xs bs

-- the pairs of a method's own order
abbrev pub pairs_of : Method → List (ℕ × ℕ)
pairs_of m = pairs_among m.before (upfrom 0 (length m.steps)) (upfrom 0 (length m.steps))

-- the pairs of a method whose steps are numbered from n
abbrev pub shifted : ℕ → List (ℕ × ℕ) → List (ℕ × ℕ)
shifted n [] = []
shifted n (ab ∷ abs) = (n + ab.0, n + ab.1) ∷ shifted n abs

-- the producer and the consumer of each link between primitive steps
abbrev pub link_pairs : List Task → List (Option ℕ) → List Link → List (ℕ × ℕ)
link_pairs ts ss [] = []
link_pairs ts ss (l ∷ ls) =
    cond (both_primitive ts ss l) ((l.producer, l.consumer) ∷ link_pairs ts ss ls) (link_pairs ts ss ls)

-- s leaves, and the method's steps get the next numbers, in their own order
abbrev pub steps_after : Plan → ℕ → Method → List (Option ℕ)
steps_after p s m = slice_set p.steps s None ++ map Some m.steps

-- links are passed down, and the method's links join
abbrev pub links_after : Plan → ℕ → Method → List Link
links_after p s m = with_links [] (map (passed_down (length p.steps) s m) p.links ++ map (renumbered (length p.steps)) m.links)

-- the pairs that join: of what was before s and after it with each new step, of the method, and of the links
abbrev pub new_pairs : List Task → Plan → ℕ → Method → List (ℕ × ℕ)
new_pairs ts p s m =
    each_to (λ x. p.before x s) (steps_of p) (upfrom (length p.steps) (length m.steps))
    ++ (turned (each_to (λ y. p.before s y) (steps_of p) (upfrom (length p.steps) (length m.steps)))
    ++ (shifted (length p.steps) (pairs_of m)
    ++ link_pairs ts (steps_after p s m) (links_after p s m)))

abbrev pub plan_with : Plan → ℕ → Method → Option Relation → Option Plan
plan_with p s m None = None
plan_with p s m (Some R) = Some (record { steps = steps_after p s m; links = links_after p s m; before = R })

-- the plan after s is decomposed by m, or None where a step would be before itself
abbrev pub decompose_step : List Task → Plan → ℕ → Method → Option Plan
decompose_step ts p s m = plan_with p s m (try_all (Some (dropped p.before s)) (new_pairs ts p s m))
