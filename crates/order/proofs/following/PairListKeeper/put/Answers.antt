use Rattle.std.proofs.Common.{◌≡◌, is_ok, sym, ap, ◌∙◌, cond, Bool}
use Rattle.std.proofs.lemmas.Bool.{cond-true}
use Rattle.order.specs.Ordered.{smallest_is}
use Rattle.order.specs.PairLists.{follows_from, list_order}
use Rattle.order.proofs.following.PairListKeeper.put.Goals as goal
use Rattle.semantics.specs.Orders.{put}

pub returns : goal.returns
returns c =
    let told = c.store.ensures in
    let me = c.args.self.now in
    let R = follows_from me in
    let a = c.args.a in
    let b = c.args.b in
    let after : follows_from c.store.new.self ≡ cond (is_ok c.store.result) (put R a b) R = told.after ∙ ap (λ (t : Bool). cond t (put R a b) R) (sym told.test) in
    record {
      test = told.test;
      after = after;
      least = λ h. smallest_is R _ a b (list_order me).strict.passes_on (after ∙ cond-true (is_ok c.store.result) (put R a b) R h);
      same = told.same;
    }
