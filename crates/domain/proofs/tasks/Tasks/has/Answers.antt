use Rattle.std.proofs.Common.{Bor}
use Rattle.domain.specs.Meaning.{task, tasks}
use Rattle.domain.specs.declared.task.Task.{Task}
use Rattle.domain.proofs.Lists.{nth_there, there_mapped}
use Rattle.domain.proofs.tasks.Tasks.has.Goals as goal

pub returns : goal.returns
returns c =
    let kept = there_mapped (λ (x : Bor Task). task x.now) c.task.result in
    let there = nth_there (tasks c.args.self.now) c.args.t in
    cc (c.task.ensures, c.is_some.ensures)
