use Rattle.std.proofs.Common.{true, false, ap, ◌∙◌, rules}
use Rattle.domain.specs.Meaning.{tasks}
use Rattle.fixed.specs.Items.{items}
use Rattle.plan.specs.Meaning.{given_steps}
use Rattle.semantics.specs.Orders.{dropped, Relation}
use Rattle.decomposing.proofs.Decides.{tried_new}
use Rattle.decomposing.proofs.exchange.Exchange.order_after.Goals as goal

pub returns-in_err-put_brought : goal.returns-in_err-put_brought
returns-in_err-put_brought g c =
    let keeper = g.K.Keeper in
    let s = c.args.self.now.leaving in
    let drops = c.drop_step.ensures ∙ ap (λ (R : Relation). dropped R s) c.copied-next.ensures in
    let none = tried_new keeper.CAPACITY (tasks c.args.known.now) (keeper.before c.args.keeper.now) c.args.self.now (given_steps c.args.after.now.steps) (items c.args.after.now.links) c.requires
    (keeper.before c.drop_step.new.self) (keeper.before c.put_brought.new.next) false drops c.in_err-put_brought.ensures in
    search rules

pub returns : goal.returns
returns g c =
    let keeper = g.K.Keeper in
    let s = c.args.self.now.leaving in
    let drops = c.drop_step.ensures ∙ ap (λ (R : Relation). dropped R s) c.copied-next.ensures in
    tried_new keeper.CAPACITY (tasks c.args.known.now) (keeper.before c.args.keeper.now) c.args.self.now (given_steps c.args.after.now.steps) (items c.args.after.now.links) c.requires
    (keeper.before c.drop_step.new.self) (keeper.before c.put_brought.new.next) true drops c.in_ok-put_brought.ensures
