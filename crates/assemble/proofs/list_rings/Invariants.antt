-- The loop of `assemble::list_rings`: what it keeps.
use Rattle.assemble.specs.Stage.{RingThrough}
use Rattle.assemble.proofs.list_rings.Given as goal

abbrev pub invariant-loop-i : goal.invariant-loop-i
invariant-loop-i l = RingThrough l.g.size l.g.segments.now l.p.trail l.p.lasts l.n l.k l.initial.work l.i l.j l.work
