-- The loop of `relabel`: what it keeps and its measure.
use Prim.Native.Nat.{◌-◌}
use lib.ListN.{length}
use Rattle.merge.proofs.Leaving.{Passing}
use Rattle.merge.proofs.relabel.Given as goal

abbrev pub invariant-loop-p : goal.invariant-loop-p
invariant-loop-p l = Passing l.n l.initial.labels l.initial.colours l.initial.work l.initial.regions l.k l.p l.labels l.colours l.work l.regions

abbrev pub decreases-loop-p : goal.decreases-loop-p
decreases-loop-p l = length l.labels - l.p
