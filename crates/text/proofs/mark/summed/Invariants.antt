-- The loop of `mark::summed`: the numbers passed are added.
use Rattle.std.proofs.Common.{◌≡◌}
use Rattle.text.specs.Mark.{summed}
use Rattle.text.proofs.mark.summed.Given as goal

abbrev pub invariant-loop-i : goal.invariant-loop-i
invariant-loop-i g l = l.total ≡ summed g.each l.i l.first
