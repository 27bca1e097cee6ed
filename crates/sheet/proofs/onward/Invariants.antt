-- The loop of `onward`: what it keeps and its measure.
use mathlib.Core.Path.{◌≡◌}
use Prim.Native.Nat.{◌-◌}
use Rattle.sheet.specs.Moving.{onward_from}
use Rattle.sheet.proofs.onward.Given as goal

abbrev pub invariant-loop-at : goal.invariant-loop-at
invariant-loop-at l =
    onward_from l.segments l.points (l.count - l.at.segment) l.at.segment l.at.place
    ≡ onward_from l.segments l.points (l.count - l.fn.from.segment) l.fn.from.segment l.fn.from.place

abbrev pub decreases-loop-at : goal.decreases-loop-at
decreases-loop-at l = l.count - l.at.segment
