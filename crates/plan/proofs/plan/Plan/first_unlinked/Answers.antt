use Rattle.fixed.specs.Items.{items}
use Rattle.plan.proofs.Ups.{unlinked_on}
use Rattle.plan.proofs.plan.Plan.first_unlinked.Goals as goal

pub loop-j-preserved : goal.loop-j-preserved
loop-j-preserved c = unlinked_on (items c.args.self.now.links) c.args.s c.args.count c.loop-j.j c.producer.result c.loop-j-test.true c.producer.ensures c.if-is_none.ensures c.loop-j.invariant
