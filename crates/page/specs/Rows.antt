-- The text of a row, and a page with a text on it.
use Rattle.std.specs.Prelude.{◌≡◌, ℕ, ◌+◌, ◌-◌, Bool, List, [], ◌∷◌, ◌++◌, length, take, drop, decimal, nat_le}
use Rattle.page.specs.declared.answer.Row.{Row}

-- a number in decimal, and the byte that stands after it
abbrev pub number_text : ℕ → ℕ → List ℕ
number_text n after = decimal n ++ (after ∷ [])

-- code,a,b,c in decimal, with commas between them
abbrev pub numbers_text : Row → List ℕ
numbers_text r = decimal r.code ++ (44 ∷ (decimal r.a ++ (44 ∷ (decimal r.b ++ (44 ∷ decimal r.c)))))

-- code,a,b,c in decimal, with commas (44) between them and CR LF (13 10) at the end
abbrev pub row_text : Row → List ℕ
row_text r = number_text r.code 44 ++ (number_text r.a 44 ++ (number_text r.b 44 ++ (number_text r.c 13 ++ (10 ∷ []))))

-- a row's text is its numbers and the line break
abbrev pub RowsEndInBreaks : Type 0
RowsEndInBreaks = (r : Row) → row_text r ≡ numbers_text r ++ (13 ∷ 10 ∷ [])

-- the page with the text from the place on, and no other byte changed
abbrev pub written : List ℕ → ℕ → List ℕ → List ℕ
written page at text = take at page ++ (text ++ drop (at + length text) page)

-- at least 28 bytes of the page are free from the place on; a place past the end has none
abbrev pub fits : List ℕ → ℕ → Bool
fits page at = nat_le 28 (length page - at)
