-- The loop of `begin`: what it keeps.
use Rattle.merge.proofs.Beginning.{Beginning}
use Rattle.merge.proofs.begin.Given as goal

abbrev pub invariant-loop-l : goal.invariant-loop-l
invariant-loop-l l = Beginning l.n l.initial.regions l.l l.regions
