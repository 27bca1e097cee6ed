-- The loop of `write::write_contour`. Its measure: the steps that are left.
use Rattle.face.proofs.contours.Rounds.{ahead}
use Rattle.listing.proofs.Steps.{Sofar}
use Rattle.listing.proofs.write.write_contour.Given as goal

abbrev pub invariant-loop-s : goal.invariant-loop-s
invariant-loop-s l = Sofar l.s l.labels l.at l.w l.region.0 l.initial.listing l.listing l.c l.n

abbrev pub decreases-loop-s : goal.decreases-loop-s
decreases-loop-s l = ahead l.s l.labels l.w l.c
