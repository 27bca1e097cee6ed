-- The loop of `islands::Plan::settle_all`: what it keeps.
use Rattle.face.proofs.islands.Settling.{Settling}
use Rattle.face.proofs.islands.Plan.settle_all.Given as goal

abbrev pub invariant-loop-q : goal.invariant-loop-q
invariant-loop-q l = Settling l.self l.paints l.labels l.initial.work l.count l.q l.work
