use Rattle.std.proofs.Common.{rules, ◌≡◌, ◌∙◌, ◌≤◌, length, get_or}
use Rattle.std.specs.Str.{IsUtf8}
use Rattle.std.proofs.lemmas.Str.Parse.{parse_plain}
use Rattle.line.proofs.Digits.{own, no_text, from_parse}
use Rattle.line.proofs.number.number_by_parse.Goals as goal

pub returns-in_err-ok-in_default : goal.returns-in_err-ok-in_default
returns-in_err-ok-in_default c = let none : IsUtf8 c.args.text.now → ⊥ = search rules in c.from_residual.ensures ∙ no_text c.args.text.now none

pub returns-in_ok-ok-in_default : goal.returns-in_ok-ok-in_default
returns-in_ok-ok-in_default c =
    let text = c.args.text.now in
    let unsigned : get_or text 0 0 ≡ 43 → ⊥ = λ e. search rules in
    let unpadded : get_or text 0 0 ≡ 48 → length text ≤ 1 = λ e. search rules in
    let same : c.in_ok-ok-in_default.field-0.now ≡ text = search rules in
    from_parse text c.parse.result _ (parse_plain own 8 text c.parse.result (rw same at c.parse.ensures.value.0) unsigned) unpadded c.ok-in_default.ensures.value
