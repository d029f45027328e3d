-- The ends of a list of links stay small where a small one joins.
use Rattle.std.proofs.Common.{◌≡◌, ◌<◌, Bool, true, false, cond, List, sym, subst, ⊎_elim}
use Rattle.semantics.specs.Plans.{with_link}
use Rattle.semantics.specs.declared.link.Link.{Link}
use Rattle.semantics.proofs.Links.{linked_with}
use Rattle.methods.specs.Ends.{SmallEnds}

pub same_ends : (ks ls : List Link) → ks ≡ ls → SmallEnds ls → SmallEnds ks
same_ends ks ls e h = subst SmallEnds (sym e) h

pub small_with : (ks ls : List Link) (k : Link) → ks ≡ with_link ls k → k.producer < 8 → k.consumer < 8 → SmallEnds ls → SmallEnds ks
small_with ks ls k e p q h = same_ends ks (with_link ls k) e
    (λ l i. ⊎_elim (h l) (λ (s : l ≡ k). (subst (λ (x : Link). x.producer < 8) (sym s) p, subst (λ (x : Link). x.consumer < 8) (sym s) q)) (linked_with l k ls i))

-- the same, where it may be that none joined
pub small_join : (b : Bool) (ks ls : List Link) (k : Link) → ks ≡ cond b ls (with_link ls k) → k.producer < 8 → k.consumer < 8 → SmallEnds ls → SmallEnds ks
small_join true ks ls k e p q h = same_ends ks ls e h
small_join false ks ls k e p q h = small_with ks ls k e p q h
