-- The loop of `sum_all`: what is summed up to the row y.
use Rattle.veneer.specs.Steps.{Measures}
use Rattle.veneer.proofs.sum_all.Given as goal

abbrev pub invariant-loop-y : goal.invariant-loop-y
invariant-loop-y l = Measures l.s l.labels l.at 0 l.y l.initial.work l.initial.sums l.work l.sums l.g
