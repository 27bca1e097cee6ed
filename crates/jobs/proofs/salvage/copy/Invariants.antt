-- The loop of `salvage::copy`: the first k bytes are copied, the others are as they were.
use mathlib.Core.Path.{◌≡◌}
use mathlib.Core.List.{◌++◌}
use lib.ListN.{length, take, drop}
use Rattle.jobs.proofs.salvage.copy.Given as goal

abbrev pub invariant-loop-k : goal.invariant-loop-k
invariant-loop-k l = (length l.to ≡ length l.initial.to) × (l.to ≡ take l.k l.from ++ drop l.k l.initial.to)
