use Rattle.std.proofs.Common.{sym, ◌∙◌, arith}
use Rattle.std.proofs.lemmas.Bool.{le-ltb}
use Rattle.semantics.proofs.Orders.{is_false}
use Rattle.domain.proofs.facts.FactList.has.Goals as goal

pub returns-else-fact-lt64 : goal.returns-else-fact-lt64
returns-else-fact-lt64 c = le-ltb c.args.fact 64 c.if-fact-lt64.false ∙ sym (is_false _ (λ e. let l = c.args.self.now.small c.args.fact e in omega arith))

pub returns-then-fact-lt64 : goal.returns-then-fact-lt64
returns-then-fact-lt64 c = c.marked.ensures ∙ c.args.self.now.marked c.args.fact
