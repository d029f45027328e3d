use Rattle.std.proofs.Common.{◌≡◌, Some, rules, arith}
use Rattle.std.specs.List.{slice_get}
use Rattle.domain.specs.Meaning.{task, tasks}
use Rattle.domain.specs.Roles.{with_fact}
use Rattle.domain.proofs.Lists.{fact_changed}
use Rattle.domain.proofs.tasks.Tasks.append.Goals as goal

pub returns-clause-after : goal.returns-clause-after
returns-clause-after c =
    let there : Some (task c.in_ok-entry.entry) ≡ slice_get (tasks c.args.self.now) c.args.task = grind (arith, c.copy_of.ensures.item) in
    let more : task c.push.new.self ≡ with_fact c.args.role c.args.fact (task c.in_ok-entry.entry) = search rules in
    let put = fact_changed c.args.role c.args.task c.args.fact (tasks c.args.self.now) (task c.in_ok-entry.entry) there in
    cc c.replace.ensures
