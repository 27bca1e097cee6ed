-- The loop of `trace_ways`: what it keeps.
use Rattle.graph.specs.Stage.{state, Stage}
use Rattle.graph.proofs.Loops.{Through, ways_of}
use Rattle.graph.proofs.trace_ways.Given as goal

abbrev pub invariant-loop-d : goal.invariant-loop-d
invariant-loop-d l =
    Through (ways_of l.p.x l.p.y l.ways) (Stage l.s l.labels)
    (state l.initial.work l.initial.nodes l.initial.segments l.initial.points l.initial.k) (state l.work l.nodes l.segments l.points l.k) l.d-index
