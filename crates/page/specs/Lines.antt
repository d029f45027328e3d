-- The lines of a text, each with the break that ends it.
use Rattle.std.specs.Prelude.{◌≡◌, ℕ, ◌+◌, ◌<◌, Bool, false, cond, ◌&&◌, ◌⊎◌, List, [], ◌∷◌, ◌++◌, map, length, take, Some, None, Option, ◌==◌, ◌≢◌, slice_index, ◌-◌}
use Rattle.std.specs.List.{flat_map, AllByRecursion}

-- a line, and the break after it
abbrev pub Broken : Type 0
Broken = List ℕ × List ℕ

-- a byte in front of the first line; where there is no line, a line of its own, with no break
abbrev pub on_first : ℕ → List Broken → List Broken
on_first b [] = (b ∷ [], []) ∷ []
on_first b ((l, e) ∷ rest) = (b ∷ l, e) ∷ rest

-- a CR in front of the first line's break
abbrev pub cr_first : List Broken → List Broken
cr_first [] = []
cr_first ((l, e) ∷ rest) = (l, 13 ∷ e) ∷ rest

-- the text begins with LF
abbrev pub starts_lf : List ℕ → Bool
starts_lf [] = false
starts_lf (b ∷ bs) = b == 10

-- The lines with their breaks. LF (10) ends a line, and a CR (13) right before it belongs to the break;
-- any other CR is part of its line. After the last break there is no further line.
abbrev pub broken : List ℕ → List Broken
broken [] = []
broken (b ∷ bs) = cond (b == 10) (([], 10 ∷ []) ∷ broken bs) (cond (b == 13 && starts_lf bs) (cr_first (broken bs)) (on_first b (broken bs)))

-- the lines without their breaks
abbrev pub lines : List ℕ → List (List ℕ)
lines text = map (λ p. p.0) (broken text)

-- the first line and the place after its break, where the lines begin at this place
abbrev pub first_line : ℕ → List Broken → Option (List ℕ × ℕ)
first_line at [] = None
first_line at ((l, e) ∷ rest) = Some (l, at + (length l + length e))

-- the line ends in CR
abbrev pub ends_cr : List ℕ → Bool
ends_cr [] = false
ends_cr (b ∷ []) = b == 13
ends_cr (b ∷ x ∷ l) = ends_cr (x ∷ l)

-- no LF among the first n bytes
abbrev pub NoFeed : List ℕ → ℕ → Type 0
NoFeed bs n = (k : ℕ) → k < n → slice_index bs k ≢ 10

-- a line without the CR at its end, if it ends in one
abbrev pub without_cr : List ℕ → List ℕ
without_cr line = cond (slice_index line (length line - 1) == 13) (take (length line - 1) line) line

-- every break is LF, or CR LF, or nothing; nothing only after the last line, which is then not empty
abbrev pub Breaks : List Broken → Type 0
Breaks [] = Unit {0}
Breaks ((l, e) ∷ rest) = ((e ≡ 10 ∷ []) ⊎ ((e ≡ 13 ∷ 10 ∷ []) ⊎ ((e ≡ []) × (rest ≡ []) × (0 < length l)))) × Breaks rest

-- no line holds an LF
abbrev pub Plain : List Broken → Type 0
Plain ps = AllByRecursion (λ p. AllByRecursion (λ b. b ≢ 10) p.0) ps

-- a line whose break is LF alone does not end in CR: that CR would belong to the break
abbrev pub WholeBreaks : List Broken → Type 0
WholeBreaks ps = AllByRecursion (λ p. p.1 ≡ 10 ∷ [] → ends_cr p.0 ≡ false) ps

-- all lines and breaks put together again, in their order
abbrev pub put_together : List Broken → List ℕ
put_together ps = flat_map (λ p. p.0 ++ p.1) ps

-- What makes these the lines of a text.
pub record LinesOfAText : Type 0 where
  -- all lines and breaks put together again, in their order, are the text
  pub whole : (text : List ℕ) → put_together (broken text) ≡ text
  -- no line holds an LF
  pub plain : (text : List ℕ) → Plain (broken text)
  -- every break is LF, CR LF or nothing, and nothing ends only a last line that is not empty
  pub breaks : (text : List ℕ) → Breaks (broken text)
  -- a line whose break is LF alone does not end in CR
  pub cr : (text : List ℕ) → WholeBreaks (broken text)
  -- no other lines and breaks have these four properties
  pub only : (text : List ℕ) (ps : List Broken) → put_together ps ≡ text → Plain ps → Breaks ps → WholeBreaks ps → ps ≡ broken text
