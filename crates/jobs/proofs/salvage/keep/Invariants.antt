-- The loop of `salvage::keep`: what it keeps and its measure.
use Prim.Native.Nat.{◌-◌, ◌≤◌}
use lib.ListN.{length}
use Rattle.jobs.specs.Salvaging.{place_of}
use Rattle.jobs.proofs.Scanning.{From}
use Rattle.jobs.proofs.salvage.keep.Given as goal

abbrev pub invariant-loop-at : goal.invariant-loop-at
invariant-loop-at l = (l.at ≤ length l.b) × (l.place.segments ≤ l.at) × From l.b (place_of l.place) l.at

abbrev pub decreases-loop-at : goal.decreases-loop-at
decreases-loop-at l = length l.b - l.at
