use Rattle.std.proofs.Common.{◌+◌, ◌∷◌, take, sym, ap, ◌∙◌}
use Rattle.std.proofs.lemmas.List.{take_rest}
use Rattle.line.specs.Fields.{fields}
use Rattle.line.proofs.Cuts.{fields_comma, fields_last}
use Rattle.line.proofs.reading.cut.Goals as goal

pub returns-in-Some-clause-fields : goal.returns-in-Some-clause-fields
returns-in-Some-clause-fields c =
    let line = c.args.line.now in
    let i = c.in-Some.i in
    fields_comma line i c.in-Some.ensures ∙ ap (λ rest. take i line ∷ fields rest) (sym (take_rest line (i + 1)))

pub returns-in-None-clause-fields : goal.returns-in-None-clause-fields
returns-in-None-clause-fields c = fields_last _ c.in-None.ensures
