-- What the calls in `segment_east` print or add for each number.
use Rattle.text.specs.Mark.{way_of, step_east}
use Rattle.text.proofs.report.CutList.segment_east.Given as goal

abbrev pub ghost-summed : goal.ghost-summed
ghost-summed a = step_east a.east.0.now.points.now (way_of a.east.1.now)
