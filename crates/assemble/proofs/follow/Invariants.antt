-- The loop of `assemble::follow`: what it keeps and its measure.
use Rattle.assemble.proofs.Following.{Sofar, left}
use Rattle.assemble.proofs.follow.Given as goal

abbrev pub invariant-loop-r : goal.invariant-loop-r
invariant-loop-r l = Sofar l.g.size l.g.labels.now l.g.nodes.now l.g.segments.now l.initial.work l.trail l.r.0 l.work l.c.0

abbrev pub decreases-loop-r : goal.decreases-loop-r
decreases-loop-r l = left l.g.size l.g.labels.now l.g.nodes.now l.g.segments.now l.initial.work l.trail l.r.0 l.c.0
