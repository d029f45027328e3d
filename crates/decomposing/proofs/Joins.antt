-- Links that join a list one by one.
use Rattle.std.proofs.Common.{◌≡◌, ℕ, zero, suc, ◌<◌, ◌≤◌, Bool, true, false, cond, not, ◌&&◌, leb, get_or, inl, inr, List, [], ◌∷◌, ◌++◌, length, Some, Option, ap, ◌∙◌, arith, length-append}
use Rattle.semantics.specs.Plans.{has_link, Linked, with_link, with_links}
use Rattle.semantics.specs.declared.link.Link.{Link}
use Rattle.methods.specs.Ends.{SmallEnds}
use Rattle.links.specs.Parts.{is_full}
use Rattle.order.proofs.Handing.{Left, left_then}

-- a full list would be longer with the link
past_full : (ls : List Link) (l : Link) → is_full 256 ls l ≡ true → 256 < length (with_link ls l)
past_full ls l h = at (has_link l ls) h
  where
    at : (b : Bool) → (not b && leb 256 (length ls)) ≡ true → 256 < length (cond b ls (ls ++ (l ∷ [])))
    at true e = grind arith
    at false e = let k = length-append ls (l ∷ []) in grind (arith, k)

-- no list shrinks
longer : (ls : List Link) (l : Link) → length ls ≤ length (with_link ls l)
longer ls l = at (has_link l ls)
  where
    at : (b : Bool) → length ls ≤ length (cond b ls (ls ++ (l ∷ [])))
    at true = omega arith
    at false = let e = length-append ls (l ∷ []) in omega arith

longer_all : (ls ks : List Link) → length ls ≤ length (with_links ls ks)
longer_all ls [] = omega arith
longer_all ls (k ∷ ks) = let a = longer ls k in let b = longer_all (with_link ls k) ks in omega arith

module _ {S : Type 0} (steps : S → Option Link → S → Type 0) (s t : S) (ls all : List Link) (l : Link) (left : Left steps with_links s ls all) (h : steps s (Some l) t) where
  -- a turn: the link joins
  pub join_more : (ks : List Link) → ks ≡ with_link ls l → Left steps with_links t ks all
  join_more ks is =
      let next = left_then steps with_links s t ls all l left h in
      record { items = next.items; yields = next.yields; same = ap (λ (ms : List Link). with_links ms next.items) is ∙ next.same }

  -- or the list is full
  pub join_stop : is_full 256 ls l ≡ true → 256 < length all
  join_stop full =
      let next = left_then steps with_links s t ls all l left h in
      let many = past_full ls l full in
      let more = longer_all (with_link ls l) next.items in
      let same = ap length next.same in
      omega arith

-- ---- the ends of a link that stands in a list

linked_at : (ls : List Link) (i : ℕ) (l : Link) → i < length ls → l ≡ get_or ls i l → Linked l ls
linked_at [] i l h e = absurd (omega arith)
linked_at (k ∷ ks) zero l h e = inl e
linked_at (k ∷ ks) (suc i) l h e = inr (linked_at ks i l (omega arith) e)

pub ends_at : (ls : List Link) (i : ℕ) (l : Link) → SmallEnds ls → i < length ls → l ≡ get_or ls i l → (l.producer < 8) × (l.consumer < 8)
ends_at ls i l small h e = small l (linked_at ls i l h e)
