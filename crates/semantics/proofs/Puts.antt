-- Putting pairs, one and many.
use Rattle.std.proofs.Common.{◌≡◌, ℕ, ◌↔◌, List, Some, None, Option, refl}
use Rattle.semantics.specs.Closures.{Chained, pair, try_all}
use Rattle.semantics.specs.Orders.{Holds, put, Relation, Smallest, Strict, Transitive}
use Rattle.semantics.specs.Theorems.{AndListed, PutIsSmallest, PutsAreTheClosure}
use Rattle.semantics.proofs.Closures.{chained_into, try_all_chained, try_all_refused}
use Rattle.semantics.proofs.Orders.{put_smallest, smallest_same}

-- the smallest is one: each holds the other's pairs
pub only_put : (R : Relation) (a b : ℕ) (S : Relation) → Transitive R → Smallest R a b S → (x y : ℕ) → S x y ≡ put R a b x y
only_put R a b S tr s = smallest_same R S (put R a b) a b s (put_smallest R a b tr)

pub put_is_smallest : PutIsSmallest
put_is_smallest = record { smallest = put_smallest; only = only_put }

-- a relation that is transitive is the closure of itself
own_closure : (R : Relation) → Transitive R → (x y : ℕ) → Holds R x y ↔ Chained (Holds R) x y
own_closure R tr x y = (λ h. pair h, λ h. chained_into (Holds R) (Holds R) (λ u v k. k) tr h)

-- Where a put is not refused, no step is before itself: so a circle is refused.
no_circle : (R : Relation) (ps : List (ℕ × ℕ)) → Strict R → (o : Option Relation) → try_all (Some R) ps ≡ o → (x : ℕ) → Chained (AndListed R ps) x x → o ≡ None
no_circle R ps s None e x h = refl
no_circle R ps s (Some S) e x h =
    let r = try_all_chained (Holds R) R S ps s (own_closure R s.passes_on) e in
    absurd (r.0.never_itself x ((r.1 x x).1 h))

pub puts_are_the_closure : PutsAreTheClosure
puts_are_the_closure = record {
  closure = λ R ps S s e. try_all_chained (Holds R) R S ps s (own_closure R s.passes_on) e;
  circle = λ R ps s. (λ e. try_all_refused (Holds R) R ps (own_closure R s.passes_on) e, λ c. no_circle R ps s (try_all (Some R) ps) refl c.0 c.1);
}
