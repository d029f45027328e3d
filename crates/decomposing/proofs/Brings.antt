-- The four lists of pairs that an exchange brings, one after another.
use Rattle.std.proofs.Common.{ℕ, Bool, true, false, List, ◌++◌, Option}
use Rattle.methods.specs.Meaning.{method}
use Rattle.semantics.specs.Decomposing.{link_pairs, pairs_of, shifted}
use Rattle.semantics.specs.Orders.{Relation}
use Rattle.semantics.specs.Plans.{present_from}
use Rattle.semantics.specs.Tasks.{Task}
use Rattle.semantics.specs.declared.link.Link.{Link}
use Rattle.decomposing.specs.Exchanges.{first, inherited, numbers, old_steps}
use Rattle.decomposing.specs.Revising.{brought}
use Rattle.decomposing.specs.Trying.{Tried}
use Rattle.decomposing.specs.declared.exchange.Exchange.{Exchange}
use Rattle.decomposing.specs.declared.exchange.Side.{Side}
use Rattle.decomposing.specs.declared.exchange.Side.TheVariants.{After, Before}
use Rattle.decomposing.proofs.Tries.{put_both, put_first}

-- A, B, C and D are the relations after each list
module _ (n : ℕ) (ts : List Task) (R : Relation) (e : Exchange) (ss : List (Option ℕ)) (ls : List Link) (start A : Relation) where
  abbrev on : Side → List (ℕ × ℕ)
  on d = inherited d R e.leaving (present_from 0 (old_steps e)) (numbers e)

  abbrev own : List (ℕ × ℕ)
  own = shifted (first e) (pairs_of (method e.method.now))

  abbrev linked : List (ℕ × ℕ)
  linked = link_pairs ts ss ls

  abbrev Brings : Bool → Relation → Type 0
  Brings = Tried n start (brought ts R e ss ls)

  pub first_stops : Tried n start (on Before) false A → Brings false A
  first_stops a = put_first n start A (on Before) (on After ++ (own ++ linked)) a

  module _ (a : Tried n start (on Before) true A) (B : Relation) where
    pub second_stops : Tried n A (on After) false B → Brings false B
    second_stops b = put_both n start A (on Before) (on After ++ (own ++ linked)) false B a (put_first n A B (on After) (own ++ linked) b)

    module _ (b : Tried n A (on After) true B) where
      then : (ok : Bool) (D : Relation) → Tried n B (own ++ linked) ok D → Brings ok D
      then ok D t = put_both n start A (on Before) (on After ++ (own ++ linked)) ok D a (put_both n A B (on After) (own ++ linked) ok D b t)

      pub third_stops : (C : Relation) → Tried n B own false C → Brings false C
      third_stops C c = then false C (put_first n B C own linked c)

      pub last_ends : (C D : Relation) (ok : Bool) → Tried n B own true C → Tried n C linked ok D → Brings ok D
      last_ends C D ok c d = then ok D (put_both n B C own linked ok D c d)
