-- The loop of `write::write_piece`. Its measure: the contours that are left.
use Prim.Native.Nat.{◌≤◌}
use Rattle.listing.proofs.Chains.{Sofar, left}
use Rattle.listing.proofs.write.write_piece.Given as goal

abbrev pub invariant-loop-k : goal.invariant-loop-k
invariant-loop-k l = (l.k ≤ 4294967295) × Sofar l.s l.labels l.work l.p l.at l.initial.listing l.listing l.end l.n l.k

abbrev pub decreases-loop-k : goal.decreases-loop-k
decreases-loop-k l = left l.s l.work l.k
