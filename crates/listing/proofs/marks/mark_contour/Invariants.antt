-- The loop of `marks::mark_contour`. Its measure: the steps that are left.
use Rattle.face.proofs.contours.Rounds.{ahead}
use Rattle.listing.proofs.Marking.{Sofar}
use Rattle.listing.proofs.marks.mark_contour.Given as goal

abbrev pub invariant-loop-s : goal.invariant-loop-s
invariant-loop-s l = Sofar l.s l.labels l.w l.region.0 l.initial.work l.work l.c

abbrev pub decreases-loop-s : goal.decreases-loop-s
decreases-loop-s l = ahead l.s l.labels l.w l.c
