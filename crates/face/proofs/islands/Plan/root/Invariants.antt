-- The loop of `islands::Plan::root`: what it keeps and its measure.
use Prim.Native.Nat.{suc}
use Rattle.face.proofs.islands.Trees.{Climbs}
use Rattle.face.proofs.islands.Plan.root.Given as goal

abbrev pub invariant-loop-r : goal.invariant-loop-r
invariant-loop-r l = Climbs l.self (suc l.p) l.labels l.q l.initial.work l.r l.work

abbrev pub decreases-loop-r : goal.decreases-loop-r
decreases-loop-r l = l.r
