-- The loop of `classify_row`: what it keeps.
use mathlib.Core.Path.{◌≡◌}
use Rattle.lattice.specs.Size.{pic}
use Rattle.lattice.specs.Around.{around_of}
use Rattle.graph.specs.Nodes.{listing, Listed}
use Rattle.graph.proofs.Loops.{Through, corners_of_row}
use Rattle.graph.proofs.classify_row.Given as goal

abbrev pub invariant-loop-x : goal.invariant-loop-x
invariant-loop-x l =
    (l.a ≡ around_of (pic l.s l.labels) l.x l.y)
    × Through (corners_of_row l.s l.y) (Listed l.s l.labels) (listing l.initial.work l.initial.k) (listing l.work l.k) l.x
