-- The loop of `count`: what it keeps.
use Rattle.merge.proofs.Beginning.{Counting}
use Rattle.merge.proofs.count.Given as goal

abbrev pub invariant-loop-l : goal.invariant-loop-l
invariant-loop-l l = Counting l.n l.labels l.initial.regions l.l-index l.regions
