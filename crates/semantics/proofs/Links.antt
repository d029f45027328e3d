-- Links kept once: what stands in the list.
use Rattle.std.proofs.Common.{◌≡◌, Bool, true, false, cond, ◌⊎◌, List, [], ◌∷◌, ◌++◌, sym, refl, subst, inl, inr, ⊎_elim, arith}
use Rattle.semantics.specs.Plans.{has_link, Linked, same_link, with_link, with_links}
use Rattle.semantics.specs.declared.link.Link.{Link}

pub same_link_is : (k l : Link) → same_link k l ≡ true → k ≡ l
same_link_is k l h =
    let a : k.producer ≡ l.producer = grind arith in
    let b : k.add ≡ l.add = grind arith in
    let c : k.consumer ≡ l.consumer = grind arith in
    let d : k.need ≡ l.need = grind arith in
    λ i. record { producer = a i; add = b i; consumer = c i; need = d i }

pub has_link_in : (l : Link) (ls : List Link) → has_link l ls ≡ true → Linked l ls
has_link_in l [] h = grind arith
has_link_in l (k ∷ ks) h = let ih = has_link_in l ks in let e = same_link_is l k in grind arith

pub linked_last : (k l : Link) (ls : List Link) → Linked k (ls ++ (l ∷ [])) → Linked k ls ⊎ (k ≡ l)
linked_last k l [] h = grind arith
linked_last k l (m ∷ ms) h = let ih = linked_last k l ms in grind arith

pub last_linked : (k l : Link) (ls : List Link) → Linked k ls ⊎ (k ≡ l) → Linked k (ls ++ (l ∷ []))
last_linked k l [] h = grind arith
last_linked k l (m ∷ ms) h = let ih = last_linked k l ms in grind arith

pub linked_with : (k l : Link) (ls : List Link) → Linked k (with_link ls l) → Linked k ls ⊎ (k ≡ l)
linked_with k l ls h = let a = linked_last k l ls in grind arith

pub linked_withs : (k : Link) (ls ks : List Link) → Linked k (with_links ls ks) → Linked k ls ⊎ Linked k ks
linked_withs k ls [] h = inl h
linked_withs k ls (m ∷ ks) h = ⊎_elim (λ i. ⊎_elim inl (λ e. inr (inl e)) (linked_with k m ls i)) (λ i. inr (inr i)) (linked_withs k (with_link ls m) ks h)

pub with_linked : (k l : Link) (ls : List Link) → Linked k ls ⊎ (k ≡ l) → Linked k (with_link ls l)
with_linked k l ls h = at (has_link l ls) refl
  where
    at : (b : Bool) → has_link l ls ≡ b → Linked k (cond b ls (ls ++ (l ∷ [])))
    at true e = ⊎_elim (λ i. i) (λ q. subst (λ (z : Link). Linked z ls) (sym q) (has_link_in l ls e)) h
    at false e = last_linked k l ls h
