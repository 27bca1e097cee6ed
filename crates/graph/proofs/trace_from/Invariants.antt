-- The loop of `trace_from`: what it keeps.
use Rattle.graph.specs.Planes.{corners_at}
use Rattle.graph.specs.Stage.{state, Stage}
use Rattle.graph.proofs.Loops.{Through, starts_of}
use Rattle.graph.proofs.trace_from.Given as goal

abbrev pub invariant-loop-i : goal.invariant-loop-i
invariant-loop-i l =
    Through (starts_of (corners_at l.initial.work l.at l.n) l.ways) (Stage l.s l.labels)
    (state l.initial.work l.initial.nodes l.initial.segments l.initial.points l.initial.k) (state l.work l.nodes l.segments l.points l.k) l.i
