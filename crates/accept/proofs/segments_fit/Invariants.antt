-- The loop of `segments_fit`: what it keeps.
use Rattle.accept.specs.Walks.{given}
use Rattle.accept.specs.Segmenting.{Sofar}
use Rattle.accept.proofs.segments_fit.Given as goal

abbrev pub invariant-loop-i : goal.invariant-loop-i
invariant-loop-i l = Sofar l.s l.labels (given l.nodes l.held l.segments l.count l.points) l.initial.work l.work l.i l.total
