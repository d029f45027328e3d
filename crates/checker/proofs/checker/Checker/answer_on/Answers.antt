use Rattle.std.proofs.Common.{rules}
use Rattle.page.specs.Answers.{row}
use Rattle.checker.proofs.Turns.{answered_on}
use Rattle.checker.proofs.checker.Checker.answer_on.Goals as goal

pub returns : goal.returns
returns g c = record {
  within = search rules;
  told = λ past means. answered_on g.K.Keeper.CAPACITY past c.args.line.now c.args.page.now c.args.at (row c.tell-answer.result) c.write.result c.unwrap_or.result c.write.new.page _
      c.requires (c.tell-answer.ensures past means) c.write.ensures.page c.write.ensures.place c.write.ensures.within c.unwrap_or.ensures;
}
