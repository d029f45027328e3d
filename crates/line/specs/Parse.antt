-- What a line tells, or why it is turned down: the lowest-numbered of the causes 1 to 4.
use Rattle.std.specs.Prelude.{ℕ, ◌+◌, cond, List, [], ◌∷◌, length, Some, None, Ok, Err, Option, Result, ◌==◌, slice_index}
use Rattle.line.specs.Bytes.{bad_byte}
use Rattle.line.specs.Fields.{fields}
use Rattle.line.specs.Letters.{Kind, kinds, kind_of}
use Rattle.line.specs.Numbers.{is_number, value}
use Rattle.line.specs.declared.command.Command.{Command}
use Rattle.line.specs.declared.command.Refusal.{Refusal}
use Rattle.line.specs.declared.command.Refusal.TheVariants.{BadByte, NoLetter, FieldCount, NoNumber}

-- a number in front of others that were read
abbrev pub onto : ℕ → Result (List ℕ) Refusal → Result (List ℕ) Refusal
onto n (Ok ns) = Ok (n ∷ ns)
onto n (Err e) = Err e

-- 4: the numbers of the texts, of which the first is the field i; or the first field that is no number
abbrev pub numbers : ℕ → List (List ℕ) → Result (List ℕ) Refusal
numbers i [] = Ok []
numbers i (t ∷ ts) = cond (is_number t) (onto (value t) (numbers (i + 1) ts)) (Err (NoNumber i))

-- 3: the letter wants so many numbers; the fields are counted with the letter's
abbrev pub counted : ℕ → List (List ℕ) → Result (List ℕ) Refusal
counted count ts = cond (length ts == count) (numbers 1 ts) (Err (FieldCount (length ts + 1)))

-- a command that has no numbers, where none were read
abbrev pub without_numbers : Command → Result (List ℕ) Refusal → Result Command Refusal
without_numbers c (Ok ns) = Ok c
without_numbers c (Err e) = Err e

-- the command of a kind of line, from the numbers
abbrev pub made : Kind → Result (List ℕ) Refusal → Result Command Refusal
made k (Ok ns) = Ok (k.command (λ i. slice_index ns i))
made k (Err e) = Err e

abbrev pub of_kind : Option Kind → List (List ℕ) → Result Command Refusal
of_kind None ts = Err NoLetter
of_kind (Some k) ts = made k (counted k.count ts)

-- 2: the first field is one letter, and the letter decides which line it is
abbrev pub lettered : List (List ℕ) → Result Command Refusal
lettered [] = Err NoLetter
lettered ([] ∷ ts) = Err NoLetter
lettered ((l ∷ []) ∷ ts) = of_kind (kind_of kinds l) ts
lettered ((l ∷ b ∷ bs) ∷ ts) = Err NoLetter

-- 1: a bad byte comes before every other cause
abbrev pub unless_bad : Option ℕ → Result Command Refusal → Result Command Refusal
unless_bad (Some i) r = Err (BadByte i)
unless_bad None r = r

-- what a line tells
abbrev pub parsed : List ℕ → Result Command Refusal
parsed line = unless_bad (bad_byte line) (lettered (fields line))
