use Rattle.std.proofs.Common.{◌≡◌, ◌*◌, [], length, drop, ◌∙◌}
use Rattle.yardcheck.proofs.Whole.{all_rows, given_back}
use Rattle.yardcheck.proofs.rows_of.Goals as goal

pub returns : goal.returns
returns c =
    let page = c.as_mut_slice.result.now in
    let new = c.run-ran.new.page in
    let size = c.as_mut_slice.ensures.len in
    let room : length page ≡ 28 * length c.args.text.now = size ∙ c.in_ok-resize.ensures.len in
    let long : length new ≡ c.resize.new.self.len = c.run-ran.auto.page ∙ size in
    c.truncate.ensures.items
    ∙ given_back c.run-ran.result.written c.resize.new.self.len new (drop (length new) c.resize.new.self.items) long
    ∙ all_rows 64 [] c.args.text.now page c.run-ran.result.next c.run-ran.result.written new _ (c.run-ran.ensures.runs [] c.open-checker.ensures) room
