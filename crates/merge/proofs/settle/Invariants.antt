-- The loop of `settle`: what it keeps and its measure.
use Rattle.merge.specs.Stored.{pairs_in, roots}
use Rattle.merge.proofs.Sweeping.{Settling}
use Rattle.merge.proofs.settle.Given as goal

abbrev pub invariant-loop-n : goal.invariant-loop-n
invariant-loop-n l = Settling l.n l.limit (pairs_in l.work l.m) l.initial.regions l.regions

abbrev pub decreases-loop-n : goal.decreases-loop-n
decreases-loop-n l = roots l.n l.regions
