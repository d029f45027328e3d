use Rattle.std.proofs.Common.{sym, ap, ◌∙◌, Bor}
use Rattle.std.specs.List.{slice_get}
use Rattle.std.specs.Option.{option_map}
use Rattle.fixed.specs.Items.{items}
use Rattle.semantics.specs.Methods.{Fits}
use Rattle.domain.specs.Meaning.{tasks}
use Rattle.domain.proofs.Lists.{mapped_twice, nth_map}
use Rattle.methods.specs.Meaning.{method}
use Rattle.methods.specs.declared.method.Method.{Method}
use Rattle.told_domain.proofs.Keeping.{lent}
use Rattle.told_domain.proofs.told.Domain.method.Goals as goal

pub returns : goal.returns
returns c =
    let self = c.args.self.now in
    let m = c.args.m in
    record {
      item = mapped_twice (λ (x : Bor Method). x.now) method c.peek.result ∙ ap (option_map method) c.peek.ensures.item ∙ sym (nth_map method (items self.list) m);
      fits = lent (λ n. ∥ Fits (tasks self.known) (method n) ∥₁) (slice_get (items self.list) m) c.peek.result c.peek.ensures.item (self.fitting m);
    }
