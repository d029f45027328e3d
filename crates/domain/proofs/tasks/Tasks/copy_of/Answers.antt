use Rattle.std.proofs.Common.{◌≡◌}
use Rattle.std.specs.List.{slice_get}
use Rattle.std.specs.Option.{option_map}
use Rattle.fixed.specs.Items.{items}
use Rattle.domain.specs.Meaning.{task, tasks}
use Rattle.domain.proofs.Lists.{nth_map, nth_there, there_mapped}
use Rattle.domain.proofs.tasks.Tasks.copy_of.Goals as goal

pub returns : goal.returns
returns c =
    let known = tasks c.args.self.now in
    let at = nth_map task (items c.args.self.now.list) c.args.t in
    let item : option_map task c.get.result ≡ slice_get known c.args.t = cc c.get.ensures.item in
    let kept = there_mapped task c.get.result in
    let there = nth_there known c.args.t in
    record { item = item; named = cc }
