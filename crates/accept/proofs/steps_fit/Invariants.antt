-- The loop of `steps_fit`: what it keeps.
use Rattle.accept.specs.Going.{Going}
use Rattle.accept.proofs.steps_fit.Given as goal

abbrev pub invariant-loop-k : goal.invariant-loop-k
invariant-loop-k l = Going l.s l.labels l.points l.initial.work l.first l.n l.work l.k
