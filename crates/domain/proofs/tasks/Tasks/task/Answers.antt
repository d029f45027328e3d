use Rattle.std.proofs.Common.{Bor}
use Rattle.fixed.specs.Items.{items}
use Rattle.domain.specs.Meaning.{task}
use Rattle.domain.specs.declared.task.Task.{Task}
use Rattle.domain.proofs.Lists.{nth_map, mapped_twice}
use Rattle.domain.proofs.tasks.Tasks.task.Goals as goal

pub returns : goal.returns
returns c =
    let seen = mapped_twice (λ (x : Bor Task). x.now) task c.peek.result in
    let at = nth_map task (items c.args.self.now.list) c.args.t in
    cc c.peek.ensures.item
