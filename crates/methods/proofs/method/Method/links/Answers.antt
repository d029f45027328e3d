use Rattle.fixed.specs.Items.{items}
use Rattle.methods.proofs.Ends.{same_ends}
use Rattle.methods.proofs.method.Method.links.Goals as goal

pub returns : goal.returns
returns c =
    let self = c.args.self.now in
    record { items = c.as_slice.ensures; small = same_ends c.as_slice.result.now (items self.links) c.as_slice.ensures self.ends }
