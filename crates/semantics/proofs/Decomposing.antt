-- The pairs that a decomposition puts are those that the book lets in.
use Rattle.std.proofs.Common.{◌≡◌, ℕ, zero, suc, ◌+◌, ◌<◌, Bool, true, false, cond, ◌&&◌, ◌⊎◌, ◌↔◌, List, [], ◌∷◌, ◌++◌, length, Some, None, Option, sym, refl, ap, ◌∙◌, subst, subst₂, inl, inr, ⊎_elim, true≢false, arith}
use Rattle.std.proofs.lemmas.Bool.{and_parts}
use Rattle.std.specs.List.{slice_get}
use Rattle.semantics.specs.Book.{BookPlan, decomposed}
use Rattle.semantics.specs.Closures.{Chained, Listed, pair, Pairs, try_all}
use Rattle.semantics.specs.Decomposing.{after_new, before_new, by_link, decompose_step, each_to, in_method, Inherits, kept, link_pairs, LinkPair, links_after, New, new_pairs, pairs_among, pairs_of, plan_with, Primitive, row_pairs, shifted, steps_after, to_each, turned, upfrom}
use Rattle.semantics.specs.Methods.{Method}
use Rattle.semantics.specs.Orders.{dropped, Holds, In, Relation, Strict}
use Rattle.semantics.specs.Plans.{at_task, Linked, Plan, primitive_at, Sound, steps_of}
use Rattle.semantics.specs.Tasks.{is_primitive, Task}
use Rattle.semantics.specs.declared.link.Link.{Link}
use Rattle.semantics.proofs.Closures.{chained_into, chained_same, Joined, try_all_chained, try_all_refused}

pub listed_append : (a b : ℕ) (ps qs : List (ℕ × ℕ)) → Listed a b (ps ++ qs) ↔ (Listed a b ps ⊎ Listed a b qs)
listed_append a b [] qs = (λ i. inr i, λ i. ⊎_elim (λ k. absurd k) (λ k. k) i)
listed_append a b (p ∷ ps) qs = let ih = listed_append a b ps qs in (λ i. grind arith, λ i. grind arith)

pub upfrom_in : (n k x : ℕ) → In x (upfrom n k) ↔ New n k x
upfrom_in n zero x = (λ i. absurd i, λ h. let w : ⊥ = omega arith in w)
upfrom_in n (suc k) x = let ih = upfrom_in (suc n) k x in (λ i. grind arith, λ h. grind arith)

to_each_listed : (a b x : ℕ) (ns : List ℕ) → Listed a b (to_each x ns) ↔ ((a ≡ x) × In b ns)
to_each_listed a b x [] = (λ i. absurd i, λ h. h.1)
to_each_listed a b x (n ∷ ns) = let ih = to_each_listed a b x ns in (λ i. grind arith, λ h. grind arith)

pub each_to_listed : (test : ℕ → Bool) (a b : ℕ) (xs ns : List ℕ) → Listed a b (each_to test xs ns) ↔ (In a xs × (test a ≡ true) × In b ns)
each_to_listed test a b [] ns = (λ i. absurd i, λ h. h.0)
each_to_listed test a b (x ∷ xs) ns =
    let ih = each_to_listed test a b xs ns in
    let ap' = listed_append a b (to_each x ns) (each_to test xs ns) in
    let one = to_each_listed a b x ns in
    (λ i. grind arith, λ h. grind arith)

pub turned_listed : (a b : ℕ) (ps : List (ℕ × ℕ)) → Listed a b (turned ps) ↔ Listed b a ps
turned_listed a b [] = (λ i. i, λ i. i)
turned_listed a b (p ∷ ps) = let ih = turned_listed a b ps in (λ i. grind arith, λ i. grind arith)

pub shifted_listed : (n x y : ℕ) (ps : List (ℕ × ℕ)) → Listed x y (shifted n ps) → (a : ℕ) × (b : ℕ) × Listed a b ps × (x ≡ n + a) × (y ≡ n + b)
shifted_listed n x y [] i = absurd i
shifted_listed n x y (p ∷ ps) (inl e) = (p.0, p.1, inl (refl, refl), e.0, e.1)
shifted_listed n x y (p ∷ ps) (inr i) = let r = shifted_listed n x y ps i in (r.0, r.1, inr r.2, r.3, r.4)

pub listed_shifted : (n a b : ℕ) (ps : List (ℕ × ℕ)) → Listed a b ps → Listed (n + a) (n + b) (shifted n ps)
listed_shifted n a b [] i = i
listed_shifted n a b (p ∷ ps) i = let ih = listed_shifted n a b ps in grind arith

pub primitive_there : (ts : List Task) (ss : List (Option ℕ)) (s : ℕ) → primitive_at ts ss s ≡ true ↔ Primitive ts ss s
primitive_there ts ss s = (go (at_task ts (slice_get ss s)) refl, λ h. rw h.1 h.2)
  where
    go : (o : Option Task) → at_task ts (slice_get ss s) ≡ o → is_primitive o ≡ true → Primitive ts ss s
    go None e h = let w : ⊥ = grind arith in absurd w
    go (Some t) e h = (t, e, h)

pub link_pairs_listed : (ts : List Task) (ss : List (Option ℕ)) (ls : List Link) (x y : ℕ) → Listed x y (link_pairs ts ss ls) → (l : Link) × Linked l ls × LinkPair ts ss l x y
link_pairs_listed ts ss [] x y i = absurd i
link_pairs_listed ts ss (l ∷ ls) x y i = at (primitive_at ts ss l.producer) (primitive_at ts ss l.consumer) refl refl (λ k. link_pairs_listed ts ss ls x y k) i
  where
    more : (m : Link) × Linked m ls × LinkPair ts ss m x y → (m : Link) × Linked m (l ∷ ls) × LinkPair ts ss m x y
    more r = (r.0, inr r.1, r.2)

    at : (b c : Bool) → primitive_at ts ss l.producer ≡ b → primitive_at ts ss l.consumer ≡ c → (Listed x y (link_pairs ts ss ls) → (m : Link) × Linked m ls × LinkPair ts ss m x y)
        → Listed x y (cond (b && c) ((l.producer, l.consumer) ∷ link_pairs ts ss ls) (link_pairs ts ss ls)) → (m : Link) × Linked m (l ∷ ls) × LinkPair ts ss m x y
    at true true p q ih (inl e) = (l, inl refl, (e.0, e.1, subst (Primitive ts ss) (sym e.0) ((primitive_there ts ss l.producer).0 p), subst (Primitive ts ss) (sym e.1) ((primitive_there ts ss l.consumer).0 q)))
    at true true p q ih (inr i) = more (ih i)
    at true false p q ih i = more (ih i)
    at false true p q ih i = more (ih i)
    at false false p q ih i = more (ih i)

pub listed_link_pairs : (ts : List Task) (ss : List (Option ℕ)) (ls : List Link) (l : Link) (x y : ℕ) → Linked l ls → LinkPair ts ss l x y → Listed x y (link_pairs ts ss ls)
listed_link_pairs ts ss [] l x y i h = absurd i
listed_link_pairs ts ss (k ∷ ks) l x y (inr i) h =
    let ih = listed_link_pairs ts ss ks l x y i h in grind arith
listed_link_pairs ts ss (k ∷ ks) l x y (inl e) h =
    let p : primitive_at ts ss x ≡ true = (primitive_there ts ss x).1 h.2 in
    let q : primitive_at ts ss y ≡ true = (primitive_there ts ss y).1 h.3 in
    let ex : x ≡ k.producer = h.0 ∙ ap (λ (m : Link). m.producer) e in
    let ey : y ≡ k.consumer = h.1 ∙ ap (λ (m : Link). m.consumer) e in
    let p' : primitive_at ts ss k.producer ≡ true = subst (λ (n : ℕ). primitive_at ts ss n ≡ true) ex p in
    let q' : primitive_at ts ss k.consumer ≡ true = subst (λ (n : ℕ). primitive_at ts ss n ≡ true) ey q in
    rw (p', q') (inl (ex, ey))

row_listed : (a : ℕ) (test : ℕ → Bool) (bs : List ℕ) (x y : ℕ) → Listed x y (row_pairs a test bs) ↔ ((x ≡ a) × In y bs × (test y ≡ true))
row_listed a test [] x y = (λ i. absurd i, λ h. absurd h.1)
row_listed a test (b ∷ bs) x y = at (test b) refl (row_listed a test bs x y)
  where
    at : (c : Bool) → test b ≡ c → (Listed x y (row_pairs a test bs) ↔ ((x ≡ a) × In y bs × (test y ≡ true)))
        → Listed x y (cond c ((a, b) ∷ row_pairs a test bs) (row_pairs a test bs)) ↔ ((x ≡ a) × ((y ≡ b) ⊎ In y bs) × (test y ≡ true))
    at true e ih = (
      λ i. ⊎_elim (λ h. (h.0, inl h.1, ap test h.1 ∙ e)) (λ j. let h = ih.0 j in (h.0, inr h.1, h.2)) i,
      λ h. ⊎_elim (λ q. inl (h.0, q)) (λ j. inr (ih.1 (h.0, j, h.2))) h.1,
    )
    at false e ih = (
      λ i. let h = ih.0 i in (h.0, inr h.1, h.2),
      λ h. ⊎_elim (λ q. let w : true ≡ false = sym h.2 ∙ (ap test q ∙ e) in absurd (true≢false w)) (λ j. ih.1 (h.0, j, h.2)) h.1,
    )

among_listed : (R : Relation) (xs bs : List ℕ) (x y : ℕ) → Listed x y (pairs_among R xs bs) ↔ (In x xs × In y bs × Holds R x y)
among_listed R [] bs x y = (λ i. absurd i, λ h. absurd h.0)
among_listed R (a ∷ xs) bs x y =
    let row = row_listed a (R a) bs x y in
    let ih = among_listed R xs bs x y in
    let both = listed_append x y (row_pairs a (R a) bs) (pairs_among R xs bs) in (
      λ i. ⊎_elim (λ j. let h = row.0 j in (inl h.0, h.1, ap (λ (z : ℕ). R z y) h.0 ∙ h.2)) (λ j. let h = ih.0 j in (inr h.0, h.1, h.2)) (both.0 i),
      λ h. both.1 (⊎_elim (λ q. inl (row.1 (q, h.1, ap (λ (z : ℕ). R z y) (sym q) ∙ h.2))) (λ j. inr (ih.1 (j, h.1, h.2))) h.0),
    )

-- the pairs of a method's own order
own_pairs : (m : Method) (x y : ℕ) → Listed x y (pairs_of m) ↔ ((x < length m.steps) × (y < length m.steps) × Holds m.before x y)
own_pairs m x y =
    let k = length m.steps in
    let l = among_listed m.before (upfrom 0 k) (upfrom 0 k) x y in (
      λ i. let h = l.0 i in let a = (upfrom_in 0 k x).0 h.0 in let b = (upfrom_in 0 k y).0 h.1 in (omega (arith, a.1), omega (arith, b.1), h.2),
      λ h. l.1 ((upfrom_in 0 k x).1 (omega arith, omega (arith, h.0)), (upfrom_in 0 k y).1 (omega arith, omega (arith, h.1)), h.2),
    )

module _ (ts : List Task) (p : Plan) (sound : Sound ts p) (before : Pairs) (same : (x y : ℕ) → Holds p.before x y ↔ before x y) (s : ℕ) (m : Method) where
  abbrev pub as_book : BookPlan
  as_book = record { steps = p.steps; links = p.links; before = before }

  Kept : Pairs
  Kept = Holds (dropped p.before s)

  dropped_strict : Strict (dropped p.before s)
  dropped_strict = record {
    never_itself = λ a h. sound.never_itself a (and_parts _ _ h).0;
    passes_on = λ a b c h k. let t = sound.passes_on a b c in grind arith;
  }

  kept_chained : (x y : ℕ) → Holds (dropped p.before s) x y ↔ Chained Kept x y
  unfolding Kept
  kept_chained x y = (λ h. pair h, λ h. chained_into Kept Kept (λ u v k. k) dropped_strict.passes_on h)

  ss : List (Option ℕ)
  ss = steps_after p s m

  ls : List Link
  ls = links_after p s m

  N : List ℕ
  N = upfrom (length p.steps) (length m.steps)

  pa : List (ℕ × ℕ)
  pa = each_to (λ x. p.before x s) (steps_of p) N

  pb : List (ℕ × ℕ)
  pb = turned (each_to (λ y. p.before s y) (steps_of p) N)

  pc : List (ℕ × ℕ)
  pc = shifted (length p.steps) (pairs_of m)

  pd : List (ℕ × ℕ)
  pd = link_pairs ts ss ls

  pairs_in : (x y : ℕ) → Joined Kept (new_pairs ts p s m) x y → Inherits ts before (length p.steps) s m ss ls x y
  unfolding Kept ss ls N pa pb pc pd
  pairs_in x y (inl h) = kept ((same x y).0 (and_parts _ _ h).0) (λ e. grind arith) (λ e. grind arith)
  pairs_in x y (inr i) = ⊎_elim from_a (λ j. ⊎_elim from_b (λ k. ⊎_elim from_c from_d ((listed_append x y pc pd).0 k)) ((listed_append x y pb (pc ++ pd)).0 j)) ((listed_append x y pa (pb ++ (pc ++ pd))).0 i)
    where
      from_a : Listed x y pa → Inherits ts before (length p.steps) s m ss ls x y
      from_a h = let r = (each_to_listed (λ z. p.before z s) x y (steps_of p) N).0 h in before_new ((same x s).0 r.1) ((upfrom_in (length p.steps) (length m.steps) y).0 r.2)

      from_b : Listed x y pb → Inherits ts before (length p.steps) s m ss ls x y
      from_b h = let r = (each_to_listed (λ z. p.before s z) y x (steps_of p) N).0 ((turned_listed x y (each_to (λ z. p.before s z) (steps_of p) N)).0 h) in after_new ((upfrom_in (length p.steps) (length m.steps) x).0 r.2) ((same s y).0 r.1)

      from_c : Listed x y pc → Inherits ts before (length p.steps) s m ss ls x y
      from_c h =
          let r = shifted_listed (length p.steps) x y (pairs_of m) h in
          let k = (own_pairs m r.0 r.1).0 r.2 in
          subst₂ (λ (u v : ℕ). Inherits ts before (length p.steps) s m ss ls u v) (sym r.3) (sym r.4) (in_method r.0 r.1 k.0 k.1 k.2)

      from_d : Listed x y pd → Inherits ts before (length p.steps) s m ss ls x y
      from_d h = let r = link_pairs_listed ts ss ls x y h in by_link r.0 r.1 r.2

  in_pairs : (x y : ℕ) → Inherits ts before (length p.steps) s m ss ls x y → Joined Kept (new_pairs ts p s m) x y
  unfolding Kept ss ls N pa pb pc pd
  in_pairs x y (kept h a b) = let k = (same x y).1 h in inl (grind arith)
  in_pairs x y (before_new h n) =
      let k = (same x s).1 h in
      inr ((listed_append x y pa (pb ++ (pc ++ pd))).1 (inl ((each_to_listed (λ z. p.before z s) x y (steps_of p) N).1 ((sound.own_steps x s k).0, k, (upfrom_in (length p.steps) (length m.steps) y).1 n))))
  in_pairs x y (after_new n h) =
      let k = (same s y).1 h in
      inr ((listed_append x y pa (pb ++ (pc ++ pd))).1 (inr ((listed_append x y pb (pc ++ pd)).1 (inl ((turned_listed x y (each_to (λ z. p.before s z) (steps_of p) N)).1
      ((each_to_listed (λ z. p.before s z) y x (steps_of p) N).1 ((sound.own_steps s y k).1, k, (upfrom_in (length p.steps) (length m.steps) x).1 n)))))))
  in_pairs _ _ (in_method a b ha hb h) =
      let x : ℕ = length p.steps + a in
      let y : ℕ = length p.steps + b in
      inr ((listed_append x y pa (pb ++ (pc ++ pd))).1 (inr ((listed_append x y pb (pc ++ pd)).1 (inr ((listed_append x y pc pd).1 (inl (listed_shifted (length p.steps) a b (pairs_of m) ((own_pairs m a b).1 (ha, hb, h)))))))))
  in_pairs x y (by_link l i h) =
      inr ((listed_append x y pa (pb ++ (pc ++ pd))).1 (inr ((listed_append x y pb (pc ++ pd)).1 (inr ((listed_append x y pc pd).1 (inr (listed_link_pairs ts ss ls l x y i h)))))))

  -- Where the decomposition is not refused, its order is strict, and exactly that of the book.
  pub order_as_book : (q : Plan) → decompose_step ts p s m ≡ Some q
      → (q.steps ≡ (decomposed ts as_book s m).steps) × (q.links ≡ (decomposed ts as_book s m).links) × Strict q.before × ((x y : ℕ) → Holds q.before x y ↔ (decomposed ts as_book s m).before x y)
  unfolding Kept ss ls
  order_as_book q e = at (try_all (Some (dropped p.before s)) (new_pairs ts p s m)) refl e
    where
      at : (o : Option Relation) → try_all (Some (dropped p.before s)) (new_pairs ts p s m) ≡ o → plan_with p s m o ≡ Some q
          → (q.steps ≡ (decomposed ts as_book s m).steps) × (q.links ≡ (decomposed ts as_book s m).links) × Strict q.before × ((x y : ℕ) → Holds q.before x y ↔ (decomposed ts as_book s m).before x y)
      at None t k = let w : ⊥ = grind arith in absurd w
      at (Some R) t k =
          let r = try_all_chained Kept (dropped p.before s) R (new_pairs ts p s m) dropped_strict kept_chained t in
          let pl : Plan = record { steps = steps_after p s m; links = links_after p s m; before = R } in
          let is : pl ≡ q = cc in
          let both : (x y : ℕ) → Holds R x y ↔ (decomposed ts as_book s m).before x y = λ x y. (
            λ h. chained_same (Joined Kept (new_pairs ts p s m)) (Inherits ts before (length p.steps) s m ss ls) pairs_in ((r.1 x y).0 h),
            λ h. (r.1 x y).1 (chained_same (Inherits ts before (length p.steps) s m ss ls) (Joined Kept (new_pairs ts p s m)) in_pairs h),
          ) in
          subst (λ (q' : Plan). (q'.steps ≡ (decomposed ts as_book s m).steps) × (q'.links ≡ (decomposed ts as_book s m).links) × Strict q'.before × ((x y : ℕ) → Holds q'.before x y ↔ (decomposed ts as_book s m).before x y))
          is (refl, refl, r.0, both)

  -- Where it is refused, the book's order would have some step before itself.
  pub refused_circle : decompose_step ts p s m ≡ None → (x : ℕ) × (decomposed ts as_book s m).before x x
  unfolding Kept ss ls
  refused_circle e = at (try_all (Some (dropped p.before s)) (new_pairs ts p s m)) refl e
    where
      at : (o : Option Relation) → try_all (Some (dropped p.before s)) (new_pairs ts p s m) ≡ o → plan_with p s m o ≡ None → (x : ℕ) × (decomposed ts as_book s m).before x x
      at None t k =
          let r = try_all_refused Kept (dropped p.before s) (new_pairs ts p s m) kept_chained t in
          (r.0, chained_same (Joined Kept (new_pairs ts p s m)) (Inherits ts before (length p.steps) s m ss ls) pairs_in r.1)
      at (Some R) t k = let w : ⊥ = grind arith in absurd w
