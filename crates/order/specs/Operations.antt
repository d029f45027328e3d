-- What a keeper answers, as a machine on relations.
use Rattle.std.specs.Prelude.{ℕ, ◌<◌, Bool, true, cond, ◌&&◌, List, [], ◌∷◌}
use Rattle.std.specs.Bool.{beq}
use Rattle.order.specs.Puts.{can_put}
use Rattle.order.specs.declared.operation.Operation.{Operation}
use Rattle.order.specs.declared.operation.Operation.TheVariants.{Ask, DropStep, Put}
use Rattle.semantics.specs.Orders.{dropped, put, Relation}

-- the answer to an operation on the relation R of a keeper for n steps, and the relation after it
abbrev pub answered : ℕ → Relation → Operation → Bool × Relation
answered n R (Put a b) = (can_put n R a b, cond (can_put n R a b) (put R a b) R)
answered n R (DropStep a) = (true, dropped R a)
answered n R (Ask a b) = (R a b, R)

-- whether keepers for n and m steps answer all the operations alike
abbrev pub same_answers : ℕ → ℕ → Relation → Relation → List Operation → Bool
same_answers n m R S [] = true
same_answers n m R S (o ∷ os) = beq (answered n R o).0 (answered m S o).0 && same_answers n m (answered n R o).1 (answered m S o).1 os

-- the numbers that are put are below n
abbrev pub LowPut : ℕ → Operation → Type 0
LowPut n (Put a b) = (a < n) × (b < n)
LowPut n (DropStep a) = Unit {0}
LowPut n (Ask a b) = Unit {0}

abbrev pub LowPuts : ℕ → List Operation → Type 0
LowPuts n [] = Unit {0}
LowPuts n (o ∷ os) = LowPut n o × LowPuts n os
