-- What the calls in `face_lines` print or add for each number.
use Rattle.text.specs.Output.{cont_line}
use Rattle.text.proofs.report.CutList.face_lines.Given as goal

abbrev pub ghost-pieces : goal.ghost-pieces
ghost-pieces a = cont_line a.print.0.now.segments.now a.print.0.now.points.now a.print.0.now.references.now a.print.0.now.contours.now
