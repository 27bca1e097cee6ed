-- The loop of `assemble::discover`: what it keeps.
use Rattle.assemble.specs.Stage.{Through}
use Rattle.assemble.proofs.discover.Given as goal

abbrev pub invariant-loop-i : goal.invariant-loop-i
invariant-loop-i l = Through l.g.size l.g.labels.now l.g.nodes.now l.g.segments.now l.p.trail l.p.lasts l.n l.initial.work l.i l.k l.work
