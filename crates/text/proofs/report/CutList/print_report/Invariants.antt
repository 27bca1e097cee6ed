-- What the calls in `print_report` print or add for each number.
use Rattle.text.specs.Output.{node_line, seg_line, face_lines}
use Rattle.text.proofs.report.CutList.print_report.Given as goal

abbrev pub ghost-pieces : goal.ghost-pieces
ghost-pieces a = node_line a.print.0.now.nodes.now

abbrev pub ghost-pieces-2 : goal.ghost-pieces-2
ghost-pieces-2 a = seg_line a.print.0.now.segments.now a.print.0.now.points.now

abbrev pub ghost-pieces-3 : goal.ghost-pieces-3
ghost-pieces-3 a = face_lines a.print.0.now.segments.now a.print.0.now.points.now a.print.0.now.references.now a.print.0.now.contours.now a.print.0.now.faces.now
