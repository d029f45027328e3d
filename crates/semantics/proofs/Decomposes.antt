-- What a decomposition gives, in the subject's words.
use Rattle.std.proofs.Common.{◌≡◌, ℕ, ◌+◌, Bool, true, false, eqb, ◌⊎◌, ◌↔◌, List, [], ◌∷◌, ◌++◌, map, length, Some, None, Option, sym, refl, ap, subst, subst₂, inl, inr, ⊎_elim, arith}
use Rattle.std.proofs.lemmas.Bool.{eq-eqb, ne_eqb}
use Rattle.std.specs.List.{slice_get}
use Rattle.semantics.specs.Closures.{Chained, pair}
use Rattle.semantics.specs.Decomposing.{after_new, before_new, decompose_step, Inherits, kept, links_after, moved, passed_down, renumbered, steps_after}
use Rattle.semantics.specs.Methods.{Fits, Method}
use Rattle.semantics.specs.Orders.{Holds}
use Rattle.semantics.specs.Plans.{Linked, Plan, Sound, with_link, with_links}
use Rattle.semantics.specs.Tasks.{Task}
use Rattle.semantics.specs.Theorems.{Arrives, Decomposes, Decomposition}
use Rattle.semantics.specs.declared.link.Link.{Link}
use Rattle.semantics.proofs.Decomposing.{order_as_book, refused_circle}
use Rattle.semantics.proofs.Inherited.{decomposed_sound}
use Rattle.semantics.proofs.Links.{linked_withs, with_linked}

linked_map : (f : Link → Link) (l : Link) (ls : List Link) → Linked l ls → Linked (f l) (map f ls)
linked_map f l [] i = absurd i
linked_map f l (k ∷ ks) (inl e) = inl (ap f e)
linked_map f l (k ∷ ks) (inr i) = inr (linked_map f l ks i)

map_linked : (f : Link → Link) (k : Link) (ls : List Link) → Linked k (map f ls) → (l : Link) × Linked l ls × (k ≡ f l)
map_linked f k [] i = absurd i
map_linked f k (l ∷ ls) (inl e) = (l, inl refl, e)
map_linked f k (l ∷ ls) (inr i) = let r = map_linked f k ls i in (r.0, inr r.1, r.2)

linked_left : (l : Link) (ks ls : List Link) → Linked l ks → Linked l (ks ++ ls)
linked_left l [] ls i = absurd i
linked_left l (k ∷ ks) ls (inl e) = inl e
linked_left l (k ∷ ks) ls (inr i) = inr (linked_left l ks ls i)

linked_right : (l : Link) (ks ls : List Link) → Linked l ls → Linked l (ks ++ ls)
linked_right l [] ls i = i
linked_right l (k ∷ ks) ls i = inr (linked_right l ks ls i)

linked_either : (l : Link) (ks ls : List Link) → Linked l (ks ++ ls) → Linked l ks ⊎ Linked l ls
linked_either l [] ls i = inr i
linked_either l (k ∷ ks) ls (inl e) = inl (inl e)
linked_either l (k ∷ ks) ls (inr i) = ⊎_elim (λ j. inl (inr j)) (λ j. inr j) (linked_either l ks ls i)

-- a list of links joined one by one has them all
withs_linked : (k : Link) (ls ks : List Link) → Linked k ls ⊎ Linked k ks → Linked k (with_links ls ks)
withs_linked k ls [] (inl i) = i
withs_linked k ls [] (inr i) = absurd i
withs_linked k ls (l ∷ ks) (inl i) = withs_linked k (with_link ls l) ks (inl (with_linked k l ls (inl i)))
withs_linked k ls (l ∷ ks) (inr (inl e)) = withs_linked k (with_link ls l) ks (inl (with_linked k l ls (inr e)))
withs_linked k ls (l ∷ ks) (inr (inr i)) = withs_linked k (with_link ls l) ks (inr i)

-- an end moves where the test says so
moved_here : (b : Bool) (n s k a j : ℕ) (o : Option (ℕ × ℕ)) → b ≡ true → o ≡ Some (a, j) → moved b n o s k ≡ (n + a, j)
moved_here b n s k a j o e f = (λ i. moved (e i) n (f i) s k)

moved_not : (b : Bool) (n s k : ℕ) (o : Option (ℕ × ℕ)) → b ≡ false → moved b n o s k ≡ (s, k)
moved_not b n s k o e = ap (λ (c : Bool). moved c n o s k) e

arrives : (n s : ℕ) (m : Method) → Arrives n s m
arrives n s m = record {
  consumer = λ l a k e g. let q = moved_here (eqb l.consumer s) n l.consumer l.need a k (m.needs_go l.need) (eq-eqb _ _ e) g in (ap (λ (z : ℕ × ℕ). z.0) q, ap (λ (z : ℕ × ℕ). z.1) q);
  producer = λ l a k e g. let q = moved_here (eqb l.producer s) n l.producer l.add a k (m.adds_go l.add) (eq-eqb _ _ e) g in (ap (λ (z : ℕ × ℕ). z.0) q, ap (λ (z : ℕ × ℕ). z.1) q);
  other_consumer = λ l e. let q = moved_not (eqb l.consumer s) n l.consumer l.need (m.needs_go l.need) (ne_eqb _ _ e) in (ap (λ (z : ℕ × ℕ). z.0) q, ap (λ (z : ℕ × ℕ). z.1) q);
  other_producer = λ l e. let q = moved_not (eqb l.producer s) n l.producer l.add (m.adds_go l.add) (ne_eqb _ _ e) in (ap (λ (z : ℕ × ℕ). z.0) q, ap (λ (z : ℕ × ℕ). z.1) q);
}

module _ (ts : List Task) (p : Plan) (s : ℕ) (m : Method) (sound : Sound ts p) where
  n : ℕ
  n = length p.steps

  self : (x y : ℕ) → Holds p.before x y ↔ Holds p.before x y
  self x y = (λ h. h, λ h. h)

  all_links : List Link
  all_links = map (passed_down (length p.steps) s m) p.links ++ map (renumbered (length p.steps)) m.links

  pub gives : (q : Plan) → Fits ts m → slice_get p.steps s ≡ Some (Some m.task) → decompose_step ts p s m ≡ Some q → Decomposes ts p s m q
  unfolding all_links
  gives q fits is_s e =
      let r = order_as_book ts p sound (Holds p.before) self s m q e in
      let links : q.links ≡ with_links [] all_links = r.1 in
      let order : (x y : ℕ) → Holds q.before x y ↔ Chained (Inherits ts (Holds p.before) (length p.steps) s m q.steps q.links) x y =
      subst₂ (λ (ss : List (Option ℕ)) (ls : List Link). (x y : ℕ) → Holds q.before x y ↔ Chained (Inherits ts (Holds p.before) (length p.steps) s m ss ls) x y) (sym r.0) (sym r.1) r.3 in
      record {
        sound = decomposed_sound ts p sound s m fits is_s q e;
        passed = λ l i. subst (Linked (passed_down (length p.steps) s m l)) (sym links)
            (withs_linked _ [] all_links (inr (linked_left _ _ _ (linked_map (passed_down (length p.steps) s m) l p.links i))));
        joined = λ l i. subst (Linked (renumbered (length p.steps) l)) (sym links)
            (withs_linked _ [] all_links (inr (linked_right _ (map (passed_down (length p.steps) s m) p.links) _ (linked_map (renumbered (length p.steps)) l m.links i))));
        no_other = λ k i. ⊎_elim (λ j. absurd j)
            (λ j. ⊎_elim (λ h. inl (map_linked _ k p.links h)) (λ h. inr (map_linked _ k m.links h)) (linked_either k (map (passed_down (length p.steps) s m) p.links) (map (renumbered (length p.steps)) m.links) j))
            (linked_withs k [] all_links (subst (Linked k) links i));
        kept = λ x y h a b. (order x y).1 (pair (kept h a b));
        before_new = λ x y h k. (order x y).1 (pair (before_new h k));
        after_new = λ x y k h. (order x y).1 (pair (after_new k h));
        order = order;
      }

  circle : (o : Option Plan) → decompose_step ts p s m ≡ o → (o ≡ None) ↔ ((x : ℕ) × Chained (Inherits ts (Holds p.before) (length p.steps) s m (steps_after p s m) (links_after p s m)) x x)
  circle None e = (λ h. refused_circle ts p sound (Holds p.before) self s m e, λ h. refl)
  circle (Some q) e =
      let r = order_as_book ts p sound (Holds p.before) self s m q e in
      (λ h. let w : ⊥ = grind arith in absurd w, λ h. absurd (r.2.never_itself h.0 ((r.3 h.0 h.0).1 h.1)))

pub decomposition : Decomposition
decomposition = record {
  gives = λ ts p s m q sound fits is_s e. gives ts p s m sound q fits is_s e;
  arrives = arrives;
  refused = λ ts p s m sound. circle ts p s m sound (decompose_step ts p s m) refl;
}
