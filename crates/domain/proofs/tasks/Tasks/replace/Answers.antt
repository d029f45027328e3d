use Rattle.std.proofs.lemmas.List.{map-set}
use Rattle.fixed.specs.Items.{items}
use Rattle.domain.specs.Meaning.{task}
use Rattle.domain.proofs.tasks.Tasks.replace.Goals as goal

pub returns : goal.returns
returns c =
    let put = map-set task (items c.args.self.now.list) c.args.t c.args.x in
    cc c.change.ensures
