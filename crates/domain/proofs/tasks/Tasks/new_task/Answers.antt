use Rattle.std.proofs.Common.{◌≡◌, [], ◌∷◌, ◌++◌, arith, rules}
use Rattle.std.proofs.lemmas.List.{length-map, map_push}
use Rattle.fixed.specs.Items.{items}
use Rattle.domain.specs.Meaning.{task}
use Rattle.domain.proofs.tasks.Tasks.new_task.Goals as goal

pub returns-in_err-push-clause-answer : goal.returns-in_err-push-clause-answer
returns-in_err-push-clause-answer c =
    let long = length-map (items c.args.self.now.list) task in
    grind (arith, long, c.len-number.ensures.value, c.in_err-push.ensures)

pub returns-in_err-push-clause-after : goal.returns-in_err-push-clause-after
returns-in_err-push-clause-after c =
    let same : items c.push.new.self ≡ items c.args.self.now.list = grind (arith, c.in_err-push.ensures) in
    grind (arith, same, c.from_residual.ensures)

pub returns : goal.returns
returns c =
    let held = items c.args.self.now.list in
    let long = length-map held task in
    let more : items c.push.new.self ≡ held ++ (c.bare.result ∷ []) = search rules in
    let made = map_push task held c.bare.result in
    record { answer = grind (arith, long, c.len-number.ensures.value); after = cc c.bare.ensures }
