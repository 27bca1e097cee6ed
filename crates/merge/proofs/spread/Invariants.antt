-- The loop of `spread`: what it keeps.
use Rattle.merge.specs.Leaves.{Spread}
use Rattle.merge.proofs.spread.Given as goal

abbrev pub invariant-loop-q : goal.invariant-loop-q
invariant-loop-q l = Spread l.from l.old l.new l.initial.labels l.q l.labels
