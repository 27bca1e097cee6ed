-- `lines::line_at` meets its contract.
use Rattle.std.proofs.Common.{drop}
use Rattle.text.proofs.Entries.{newline_read}
use Rattle.text.proofs.lines.line_at.Goals as goal

pub returns-then-width-eq0 : goal.returns-then-width-eq0
returns-then-width-eq0 c =
    let a = c.args in
    newline_read a.text.now (drop a.at a.text.now) a.labels.now a.base a.width c.newline_at.result c.if-width-eq0.true c.newline_at.ensures
