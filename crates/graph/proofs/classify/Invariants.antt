-- The loop of `classify`: what it keeps.
use Rattle.graph.specs.Nodes.{listing, Listed}
use Rattle.graph.proofs.Loops.{Through, rows_of_corners}
use Rattle.graph.proofs.classify.Given as goal

abbrev pub invariant-loop-y : goal.invariant-loop-y
invariant-loop-y l = Through (rows_of_corners l.s) (Listed l.s l.labels) (listing l.initial.work (record { nodes = 0; bends = 0 })) (listing l.work l.k) l.y
