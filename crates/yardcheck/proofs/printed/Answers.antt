use Rattle.std.proofs.Common.{◌≡◌, ℕ, Bool, false, cond, leb, List, [], ◌∷◌, ◌++◌, length, sym, refl, ap, ◌∙◌, arith}
use Rattle.std.specs.Fmt.{digits}
use Rattle.page.specs.Answers.{as_row}
use Rattle.page.specs.Lines.{lines}
use Rattle.page.specs.Rows.{row_text}
use Rattle.checker.specs.Runs.{rows_text}
use Rattle.yardcheck.proofs.printed.Goals as goal

-- 10,16384,0,0 with its break
abbrev too_long : List ℕ
too_long = 49 ∷ 48 ∷ 44 ∷ 49 ∷ 54 ∷ 51 ∷ 56 ∷ 52 ∷ 44 ∷ 48 ∷ 44 ∷ 48 ∷ 13 ∷ 10 ∷ []

its_row : too_long ≡ row_text (as_row 10 16384 0 0)
unfolding digits
its_row = refl

pub returns : goal.returns
returns c =
    let text = c.args.text.now in
    let long : leb (length text) 16384 ≡ false = let l = c.if-text-le-MOST_BYTES.false in grind (arith, l) in
    c.in_ok-extend_from_slice.ensures.items
    ∙ ap (λ (xs : List ℕ). xs ++ too_long) c.new-row.ensures.items
    ∙ its_row
    ∙ sym (ap (λ (b : Bool). cond b (rows_text 64 [] (lines text)) (row_text (as_row 10 16384 0 0))) long)
