-- What the calls in `cont_line` print or add for each number.
use Rattle.text.specs.Output.{reference_at}
use Rattle.text.proofs.report.CutList.cont_line.Given as goal

abbrev pub ghost-pieces : goal.ghost-pieces
ghost-pieces a = reference_at a.print.0.now
