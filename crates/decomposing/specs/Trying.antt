-- Pairs put into a keeper, one by one.
use Rattle.std.specs.Prelude.{◌≡◌, ℕ, Bool, List}
use Rattle.order.specs.Puts.{put_each}
use Rattle.semantics.specs.Orders.{Relation}

-- A keeper for n steps puts the pairs into R until one is refused: whether all are put, and the relation S then.
abbrev pub Tried : ℕ → Relation → List (ℕ × ℕ) → Bool → Relation → Type 0
Tried n R ps ok S = ◌≡◌ {A = Bool × Relation} (ok, S) (put_each n R ps)
