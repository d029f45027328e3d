-- What a reader of lines has yet to hand out.
use Rattle.std.specs.Prelude.{ℕ, List, drop}
use Rattle.page.specs.Lines.{lines}
use Rattle.page.specs.declared.reading.Lines.{Lines}

-- the lines from its place on
abbrev pub lines_left : Lines → List (List ℕ)
lines_left r = lines (drop r.place r.text.now)
