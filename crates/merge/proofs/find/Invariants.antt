-- The loop of `find`: what it keeps and its measure.
use Prim.Native.Nat.{◌-◌}
use Rattle.merge.specs.Stored.{word}
use Rattle.merge.proofs.Climbing.{Climbs}
use Rattle.merge.proofs.find.Given as goal

abbrev pub invariant-loop-r : goal.invariant-loop-r
invariant-loop-r l = Climbs l.n l.l l.initial.regions l.r l.regions

abbrev pub decreases-loop-r : goal.decreases-loop-r
decreases-loop-r l = 268435457 - word l.regions l.r 1
