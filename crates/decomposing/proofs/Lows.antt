-- The pairs that a decomposition brings have numbers below the capacity.
use Rattle.std.proofs.Common.{◌≡◌, ℕ, ◌+◌, ◌<◌, ◌≤◌, Bool, true, false, cond, List, [], ◌∷◌, ◌++◌, length, Some, None, Option, sym, refl, ap, ◌∙◌, inl, inr, ⊎_elim, arith, length-append, length-set}
use lib.ListN.{length-map}
use Rattle.std.proofs.lemmas.Option.{slice_get_past, slice_get_within}
use Rattle.std.proofs.lemmas.Bool.{cases_lt}
use Rattle.std.specs.List.{slice_get}
use Rattle.order.specs.Puts.{Low}
use Rattle.semantics.specs.Closures.{Listed}
use Rattle.semantics.specs.Decomposing.{each_to, link_pairs, links_after, new_pairs, pairs_among, pairs_of, row_pairs, shifted, steps_after, turned, upfrom}
use Rattle.semantics.specs.Methods.{Method}
use Rattle.semantics.specs.Orders.{In, Relation}
use Rattle.semantics.specs.Plans.{at_task, Plan, present_from, steps_of}
use Rattle.semantics.specs.Tasks.{Task}
use Rattle.semantics.specs.declared.link.Link.{Link}
use Rattle.semantics.proofs.Decomposing.{each_to_listed, link_pairs_listed, turned_listed, upfrom_in}
use Rattle.semantics.proofs.Inherited.{in_number}

-- all numbers of the list are below n
abbrev Below : ℕ → List ℕ → Type 0
Below n xs = (x : ℕ) → In x xs → x < n

below_present : (n : ℕ) (os : List (Option ℕ)) → length os ≤ n → Below n (present_from 0 os)
below_present n os h x i = let r = in_number os 0 x i in let l = slice_get_within os r.0 (Some r.1) r.3 in omega (arith, r.2)

below_new : (n first k : ℕ) → first + k ≤ n → Below n (upfrom first k)
below_new n first k h x i = let r = (upfrom_in first k x).0 i in omega (arith, r.1)

low_listed : (n : ℕ) (ps : List (ℕ × ℕ)) → ((a b : ℕ) → Listed a b ps → (a < n) × (b < n)) → Low n ps
low_listed n [] h = tt
low_listed n (p ∷ ps) h = let one = h p.0 p.1 (inl (refl, refl)) in (one.0, one.1, low_listed n ps (λ a b i. h a b (inr i)))

low_append : (n : ℕ) (ps qs : List (ℕ × ℕ)) → Low n ps → Low n qs → Low n (ps ++ qs)
low_append n [] qs l k = k
low_append n (p ∷ ps) qs l k = (l.0, l.1, low_append n ps qs l.2 k)

module _ (n : ℕ) (test : ℕ → Bool) (xs ns : List ℕ) (old : Below n xs) (new : Below n ns) where
  low_each : Low n (each_to test xs ns)
  low_each = low_listed n _ (λ a b i. let r = (each_to_listed test a b xs ns).0 i in (old a r.0, new b r.2))

  low_turned : Low n (turned (each_to test xs ns))
  low_turned = low_listed n _ (λ a b i. let r = (each_to_listed test b a xs ns).0 ((turned_listed a b (each_to test xs ns)).0 i) in (new a r.2, old b r.0))

low_row : (n a : ℕ) (test : ℕ → Bool) (bs : List ℕ) → a < n → Below n bs → Low n (row_pairs a test bs)
low_row n a test [] l h = tt
low_row n a test (b ∷ bs) l h = at (test b) (low_row n a test bs l (λ x i. h x (inr i)))
  where
    at : (t : Bool) → Low n (row_pairs a test bs) → Low n (cond t ((a, b) ∷ row_pairs a test bs) (row_pairs a test bs))
    at true rest = (l, h b (inl refl), rest)
    at false rest = rest

low_among : (n : ℕ) (R : Relation) (xs bs : List ℕ) → Below n xs → Below n bs → Low n (pairs_among R xs bs)
low_among n R [] bs h k = tt
low_among n R (a ∷ xs) bs h k = low_append n (row_pairs a (R a) bs) (pairs_among R xs bs) (low_row n a (R a) bs (h a (inl refl)) k) (low_among n R xs bs (λ x i. h x (inr i)) k)

low_shifted : (n first k : ℕ) (ps : List (ℕ × ℕ)) → first + k ≤ n → Low k ps → Low n (shifted first ps)
low_shifted n first k [] h l = tt
low_shifted n first k (p ∷ ps) h l = let a = l.0 in let b = l.1 in (omega arith, omega arith, low_shifted n first k ps h l.2)

-- a step with a task is among the steps
task_below : (ts : List Task) (ss : List (Option ℕ)) (x : ℕ) (t : Task) → at_task ts (slice_get ss x) ≡ Some t → x < length ss
task_below ts ss x t e = ⊎_elim (λ h. h)
    (λ (h : length ss ≤ x). let z : None ≡ Some t = sym (ap (at_task ts) (slice_get_past ss x h)) ∙ e in let k : ◌≡◌ {A = ℕ} 0 1 = cc in omega arith) (cases_lt x (length ss))

low_links : (n : ℕ) (ts : List Task) (ss : List (Option ℕ)) (ls : List Link) → length ss ≤ n → Low n (link_pairs ts ss ls)
low_links n ts ss ls h = low_listed n _ (λ a b i.
    let r = link_pairs_listed ts ss ls a b i in
    let x = task_below ts ss a r.2.2.0 r.2.2.1 in
    let y = task_below ts ss b r.2.3.0 r.2.3.1 in
    (omega arith, omega arith))

pub length_after : (p : Plan) (s : ℕ) (m : Method) → length (steps_after p s m) ≡ length p.steps + length m.steps
length_after p s m = simp (length-append, length-set, length-map)

pub low_new : (n : ℕ) (ts : List Task) (p : Plan) (s : ℕ) (m : Method) → length p.steps + length m.steps ≤ n → Low n (new_pairs ts p s m)
low_new n ts p s m room =
    let old = below_present n p.steps (omega arith) in
    let ns = upfrom (length p.steps) (length m.steps) in
    let new = below_new n (length p.steps) (length m.steps) room in
    let own = below_new (length m.steps) 0 (length m.steps) (omega arith) in
    let all = length_after p s m in
    low_append n (each_to (λ x. p.before x s) (steps_of p) ns) _ (low_each n (λ x. p.before x s) (steps_of p) ns old new)
    (low_append n (turned (each_to (λ y. p.before s y) (steps_of p) ns)) _ (low_turned n (λ y. p.before s y) (steps_of p) ns old new)
    (low_append n (shifted (length p.steps) (pairs_of m)) _ (low_shifted n (length p.steps) (length m.steps) (pairs_of m) room (low_among (length m.steps) m.before _ _ own own))
    (low_links n ts (steps_after p s m) (links_after p s m) (omega arith))))
