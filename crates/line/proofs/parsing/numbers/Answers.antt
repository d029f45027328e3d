use Rattle.std.proofs.Common.{rules, ◌≡◌, Err, ◌+◌, ◌^◌, ◌<◌, ◌∙◌, arith}
use Rattle.line.specs.Fields.{fields_left}
use Rattle.line.specs.declared.command.Refusal.TheVariants.{NoNumber}
use Rattle.line.proofs.Counting.{start, inside, turn, stop, all_read, count_agrees, count_differs}
use Rattle.line.proofs.Cuts.{one_more}
use Rattle.line.proofs.parsing.numbers.Goals as goal

pub overflow_add-result : goal.overflow_add-result
overflow_add-result g c =
    let h : c.remaining-count.result + 1 < 2 ^ 64 = one_more c.after_letter-after.result.rest _ c.after_letter-after.ensures.place c.remaining-count.ensures.fits c.remaining-count.ensures.value in
    omega (arith, h)

pub returns-then-count : goal.returns-then-count
returns-then-count g c =
    let differs = count_differs (fields_left c.args.rest) c.after_letter-after.ensures.fields c.remaining-count.ensures.value c.if-count.true in
    grind (arith, differs)

pub loop-field-init : goal.loop-field-init
loop-field-init g c =
    rw c.into_iter-field-iterator.ensures.into_iter_gives (start (fields_left c.args.rest) _ _ c.after_letter-after.ensures.fields (omega (arith, c.remaining-count.ensures.value)))

pub overflow_sub-all : goal.overflow_sub-all
overflow_sub-all g c = (inside c.loop-field.invariant _ _ c.in-Some.ensures.steps).0

pub bounds-all-field : goal.bounds-all-field
bounds-all-field g c = (inside c.loop-field.invariant _ _ c.in-Some.ensures.steps).1

pub returns-in_err-all : goal.returns-in_err-all
returns-in_err-all g c =
    let e : c.from_residual.result ≡ Err (NoNumber c.in-Some.field.place) = search rules in
    e ∙ count_agrees _ c.after_letter-after.ensures.fields c.remaining-count.ensures.value c.if-count.false (stop c.loop-field.invariant _ _ c.in-Some.ensures.steps (search rules))

pub loop-field-preserved : goal.loop-field-preserved
loop-field-preserved g c = turn c.loop-field.invariant _ _ c.in-Some.ensures.steps _ (search rules)

pub returns : goal.returns
returns g c = count_agrees _ c.after_letter-after.ensures.fields c.remaining-count.ensures.value c.if-count.false (all_read c.loop-field.invariant c.in-None.ensures.steps.0)
