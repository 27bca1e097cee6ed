-- The loop of `contours::contour`: what it keeps, and its measure, the steps that are left.
use Rattle.face.proofs.contours.Rounds.{ahead}
use Rattle.face.proofs.contours.Walking.{Sofar}
use Rattle.face.proofs.contours.contour.Given as goal

abbrev pub invariant-loop-s : goal.invariant-loop-s
invariant-loop-s l = Sofar l.s l.labels l.initial.work l.at l.w l.region.0 l.work l.c l.n

abbrev pub decreases-loop-s : goal.decreases-loop-s
decreases-loop-s l = ahead l.s l.labels l.w l.c
