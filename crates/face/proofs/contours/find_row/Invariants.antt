-- The loop of `contours::find_row`: it keeps what is found up to the corner (x, y).
use Rattle.face.specs.Contours.{Scanned}
use Rattle.face.proofs.contours.find_row.Given as goal

abbrev pub invariant-loop-x : goal.invariant-loop-x
invariant-loop-x l = Scanned l.s l.labels l.at l.x l.y l.initial.work l.work l.g
