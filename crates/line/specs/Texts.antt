-- The text of a command: each command has one, and a line that tells it is that text.
use Rattle.std.specs.Prelude.{◌≡◌, ℕ, ◌<◌, List, [], ◌∷◌, ◌++◌, Ok, codes, decimal}
use Rattle.line.specs.Parse.{parsed}
use Rattle.line.specs.declared.command.Command.{Command}
use Rattle.line.specs.declared.command.Command.TheVariants.{NewPrimitive, NewCompound, AppendNeed, AppendAdd, AppendDelete, EndPhase, OpenMethod, NewStep, PutOrder, PutLink, RouteNeed, RouteAdd, CloseMethod, Decompose, Judge, Take}

-- each number in decimal, with a comma before it
abbrev pub commas : List ℕ → List ℕ
commas [] = []
commas (n ∷ ns) = 44 ∷ (decimal n ++ commas ns)

-- every number is one that a field can write
abbrev pub Small : List ℕ → Type 0
Small [] = Unit {0}
Small (n ∷ ns) = (n < 256) × Small ns

-- the letter of a command
abbrev pub letter_of : Command → List ℕ
letter_of NewPrimitive = codes "P"
letter_of NewCompound = codes "C"
letter_of (AppendNeed t f) = codes "N"
letter_of (AppendAdd t f) = codes "A"
letter_of (AppendDelete t f) = codes "D"
letter_of EndPhase = codes "E"
letter_of (OpenMethod t) = codes "M"
letter_of (NewStep t) = codes "S"
letter_of (PutOrder p q) = codes "O"
letter_of (PutLink p i q j) = codes "L"
letter_of (RouteNeed j s k) = codes "U"
letter_of (RouteAdd i s k) = codes "V"
letter_of CloseMethod = codes "K"
letter_of (Decompose s m) = codes "X"
letter_of Judge = codes "J"
letter_of (Take s) = codes "R"

-- its numbers, in the order of the fields
abbrev pub numbers_of : Command → List ℕ
numbers_of NewPrimitive = []
numbers_of NewCompound = []
numbers_of (AppendNeed t f) = t ∷ f ∷ []
numbers_of (AppendAdd t f) = t ∷ f ∷ []
numbers_of (AppendDelete t f) = t ∷ f ∷ []
numbers_of EndPhase = []
numbers_of (OpenMethod t) = t ∷ []
numbers_of (NewStep t) = t ∷ []
numbers_of (PutOrder p q) = p ∷ q ∷ []
numbers_of (PutLink p i q j) = p ∷ i ∷ q ∷ j ∷ []
numbers_of (RouteNeed j s k) = j ∷ s ∷ k ∷ []
numbers_of (RouteAdd i s k) = i ∷ s ∷ k ∷ []
numbers_of CloseMethod = []
numbers_of (Decompose s m) = s ∷ m ∷ []
numbers_of Judge = []
numbers_of (Take s) = s ∷ []

-- the text of a command
abbrev pub text_of : Command → List ℕ
text_of c = letter_of c ++ commas (numbers_of c)

-- A command is read from its own text and from no other.
pub record OneText : Type 0 where
  pub read : (c : Command) → Small (numbers_of c) → parsed (text_of c) ≡ Ok c
  pub only : (line : List ℕ) (c : Command) → parsed line ≡ Ok c → line ≡ text_of c
  pub small : (line : List ℕ) (c : Command) → parsed line ≡ Ok c → Small (numbers_of c)
