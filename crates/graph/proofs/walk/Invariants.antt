-- The loop of `walk`: what it keeps and its measure.
use Prim.Native.Nat.{◌-◌}
use lib.ListN.{length}
use Rattle.graph.proofs.Along.{Sofar}
use Rattle.graph.specs.Walk.{steps_of}
use Rattle.graph.proofs.walk.Given as goal

abbrev pub invariant-loop-s : goal.invariant-loop-s
invariant-loop-s l = Sofar l.s l.labels l.initial.work l.initial.points l.at l.w l.work l.points l.c l.steps

abbrev pub decreases-loop-s : goal.decreases-loop-s
decreases-loop-s l = length (steps_of l.s l.labels l.w) - l.steps
