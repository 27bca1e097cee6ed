-- The loop of `sweep`: what it keeps.
use Rattle.merge.proofs.Sweeping.{Sweeping}
use Rattle.merge.proofs.sweep.Given as goal

abbrev pub invariant-loop-k : goal.invariant-loop-k
invariant-loop-k l = Sweeping l.n l.limit l.m l.work l.initial.regions l.k l.count l.regions
