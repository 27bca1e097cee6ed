-- The loop of `find_row`: what is summed up to the corner (x, y).
use Rattle.veneer.specs.Steps.{Measures}
use Rattle.veneer.proofs.find_row.Given as goal

abbrev pub invariant-loop-x : goal.invariant-loop-x
invariant-loop-x l = Measures l.s l.labels l.at l.x l.y l.initial.work l.initial.sums l.work l.sums l.g
