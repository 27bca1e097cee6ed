-- What the calls in `seg_line` print or add for each number.
use Rattle.text.specs.Output.{point_at}
use Rattle.text.proofs.report.CutList.seg_line.Given as goal

abbrev pub ghost-pieces : goal.ghost-pieces
ghost-pieces a = point_at a.print.0.now
