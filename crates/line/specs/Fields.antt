-- The fields of a line.
use Rattle.std.specs.Prelude.{◌≡◌, ℕ, ◌+◌, ◌<◌, List, [], ◌∷◌, length, Some, None, Option, ◌==◌, ◌≢◌, slice_index, slice_index_or}
use Rattle.std.specs.Borrow.{Bor}
use Rattle.std.specs.List.{slice_split, join_with_byte}

-- the parts between the commas: one more than there are commas
abbrev pub fields : List ℕ → List (List ℕ)
fields line = slice_split (λ b. b == 44) line

-- the fields of what is left of a line, or none where nothing is left
abbrev pub fields_left : Option (Bor (List ℕ)) → List (List ℕ)
fields_left None = []
fields_left (Some rest) = fields rest.now

-- fields with their places, of which the first is given
abbrev pub placed : ℕ → List (List ℕ) → List (ℕ × List ℕ)
placed place [] = []
placed place (f ∷ fs) = (place, f) ∷ placed (place + 1) fs

-- what a reader has yet to hand out: the fields of the rest with their places, or none once the last was handed out
abbrev pub left : Option (ℕ × Bor (List ℕ)) → List (ℕ × List ℕ)
left None = []
left (Some r) = placed r.0 (fields r.1.now)

-- no comma among the first n bytes
abbrev pub NoComma : List ℕ → ℕ → Type 0
NoComma bs n = (k : ℕ) → k < n → slice_index bs k ≢ 44

-- fields with a comma between each and the next
abbrev pub joined : List (List ℕ) → List ℕ
joined fs = join_with_byte 44 fs

-- The fields are the parts of the line: joined by commas they are the line, and none holds a comma.
pub record Parts : Type 0 where
  pub whole : (line : List ℕ) → joined (fields line) ≡ line
  pub apart : (line : List ℕ) (i : ℕ) → NoComma (slice_index_or (fields line) i []) (length (slice_index_or (fields line) i []))
