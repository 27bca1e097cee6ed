-- The loop of `paint_row`: what it keeps.
use Rattle.layers.specs.Painting.{Rowed}
use Rattle.layers.proofs.paint_row.Given as goal

abbrev pub invariant-loop-k : goal.invariant-loop-k
invariant-loop-k l = Rowed l.masks l.to l.from l.k l.number l.initial.labels l.labels
