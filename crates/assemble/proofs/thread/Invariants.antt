-- The loop of `assemble::thread`: what it keeps.
use Rattle.assemble.specs.Groups.{ThreadsAll}
use Rattle.assemble.proofs.thread.Given as goal

abbrev pub invariant-loop-k : goal.invariant-loop-k
invariant-loop-k l = ThreadsAll l.g.size l.g.segments.now l.g.points.now l.p.trail l.p.heads l.p.ids l.p.lasts l.count l.initial.work l.k l.work
