-- The letters that a line can begin with.
use Rattle.std.specs.Prelude.{ℕ, cond, List, [], ◌∷◌, ◌++◌, Some, None, codes, Option, ◌==◌, slice_index}
use Prim.Native.String.{String}
use Rattle.line.specs.declared.command.Command.{Command}
use Rattle.line.specs.declared.command.Command.TheVariants.{NewPrimitive, NewCompound, AppendNeed, AppendAdd, AppendDelete, EndPhase, OpenMethod, NewStep, PutOrder, PutLink, RouteNeed, RouteAdd, CloseMethod, Decompose, Judge, Take}

-- A kind of line: its letter, how many numbers follow it, and the command that they make, each taken by its place.
pub record Kind : Type 0 where
  pub letter : ℕ
  pub count : ℕ
  pub command : (ℕ → ℕ) → Command

abbrev pub kind : String → ℕ → ((ℕ → ℕ) → Command) → Kind
kind letter count command = record { letter = slice_index (codes letter) 0; count = count; command = command }

-- the lines that tell tasks and methods
abbrev pub domain_kinds : List Kind
domain_kinds =
    kind "P" 0 (λ n. NewPrimitive)
    ∷ kind "C" 0 (λ n. NewCompound)
    ∷ kind "N" 2 (λ n. AppendNeed (n 0) (n 1))
    ∷ kind "A" 2 (λ n. AppendAdd (n 0) (n 1))
    ∷ kind "D" 2 (λ n. AppendDelete (n 0) (n 1))
    ∷ kind "E" 0 (λ n. EndPhase)
    ∷ kind "M" 1 (λ n. OpenMethod (n 0))
    ∷ kind "U" 3 (λ n. RouteNeed (n 0) (n 1) (n 2))
    ∷ kind "V" 3 (λ n. RouteAdd (n 0) (n 1) (n 2))
    ∷ kind "K" 0 (λ n. CloseMethod)
    ∷ []

-- the lines that tell, judge and follow a plan; S, O and L tell a method's steps too
abbrev pub plan_kinds : List Kind
plan_kinds =
    kind "S" 1 (λ n. NewStep (n 0))
    ∷ kind "O" 2 (λ n. PutOrder (n 0) (n 1))
    ∷ kind "L" 4 (λ n. PutLink (n 0) (n 1) (n 2) (n 3))
    ∷ kind "X" 2 (λ n. Decompose (n 0) (n 1))
    ∷ kind "J" 0 (λ n. Judge)
    ∷ kind "R" 1 (λ n. Take (n 0))
    ∷ []

-- every kind of line
abbrev pub kinds : List Kind
kinds = domain_kinds ++ plan_kinds

-- the kind with a letter, if there is one
abbrev pub kind_of : List Kind → ℕ → Option Kind
kind_of [] letter = None
kind_of (k ∷ ks) letter = cond (k.letter == letter) (Some k) (kind_of ks letter)
