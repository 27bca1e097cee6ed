-- `report::outline_or_hole` meets its contract.
use Rattle.std.proofs.Common.{sym, ap}
use Rattle.text.specs.Output.{letter}
use Rattle.text.proofs.Printing.{prints_as}
use Rattle.text.proofs.report.outline_or_hole.Goals as goal

pub returns-then-outline : goal.returns-then-outline
unfolding letter
returns-then-outline c = prints_as (sym (ap letter c.if-outline.true)) c.word.ensures

pub returns-else-outline : goal.returns-else-outline
unfolding letter
returns-else-outline c = prints_as (sym (ap letter c.if-outline.false)) c.word-else-outline.ensures
