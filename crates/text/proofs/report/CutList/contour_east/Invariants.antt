-- What the calls in `contour_east` print or add for each number.
use Rattle.text.specs.Mark.{way_of, reference_east}
use Rattle.text.proofs.report.CutList.contour_east.Given as goal

abbrev pub ghost-summed : goal.ghost-summed
ghost-summed a = reference_east a.east.0.now.segments.now a.east.0.now.points.now a.east.0.now.references.now (way_of a.east.1.now)
