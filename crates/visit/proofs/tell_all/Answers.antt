use Rattle.std.proofs.Common.{◌≡◌, length, inl, ap, arith, rules}
use Rattle.std.proofs.lemmas.List.{length-map}
use Rattle.std.specs.Iterator.Adapters.{enumerate_source}
use Rattle.page.specs.Lines.{Broken, broken, lines}
use Rattle.page.specs.Reading.{lines_left}
use Rattle.told_domain.specs.Domains.{parts}
use Rattle.visit.specs.Sessions.{lines_after}
use Rattle.page.proofs.Steps.{few_lines}
use Rattle.visit.proofs.tell_all.Goals as goal

pub loop-index-init-derived : goal.loop-index-init-derived
loop-index-init-derived c =
    let text = c.args.text.now in
    let few = few_lines text in
    let long = length-map (broken text) (λ (p : Broken). p.0) in
    let same = ap length c.new.ensures in
    ((tt, tt, inl (grind (arith, c.enumerate-index-items.ensures.source, c.enumerate-index-items.ensures.count))), search rules)

pub loop-index-init : goal.loop-index-init
loop-index-init c =
    let first = loop-index-init-derived c in
    let left : lines_left (enumerate_source c.into_iter-index-iterator.result) ≡ lines c.args.text.now = grind (arith, c.new.ensures, c.enumerate-index-items.ensures.source) in
    (first.0, first.1, ap (lines_after (parts c.args.session.now.domain)) left)
