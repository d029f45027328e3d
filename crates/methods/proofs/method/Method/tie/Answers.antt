use Rattle.fixed.specs.Items.{items}
use Rattle.links.specs.Parts.{is_full}
use Rattle.methods.proofs.Ends.{small_join}
use Rattle.methods.proofs.method.Method.tie.Goals as goal

pub invariant_of-self-2-clause-ends : goal.invariant_of-self-2-clause-ends
invariant_of-self-2-clause-ends c =
    let self = c.args.self.now in
    small_join (is_full 16 (items self.links) c.args.l) (items c.join.new.links) (items self.links) c.args.l c.join.ensures c.requires.producer c.requires.consumer self.ends
