-- The loop of `contours::count`: it keeps what is found up to the row y.
use Rattle.face.specs.Contours.{Scanned}
use Rattle.face.proofs.contours.count.Given as goal

abbrev pub invariant-loop-y : goal.invariant-loop-y
invariant-loop-y l = Scanned l.s l.labels l.at 0 l.y l.initial.work l.work l.g
