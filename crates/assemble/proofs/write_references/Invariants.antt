-- The loop of `assemble::write_references`: what it keeps and its measure.
use Rattle.assemble.proofs.Runs.{Sofar, left}
use Rattle.assemble.proofs.write_references.Given as goal

abbrev pub invariant-loop-r : goal.invariant-loop-r
invariant-loop-r l = Sofar l.trail l.work l.at l.r.0 l.initial.references l.references l.q.0 l.count

abbrev pub decreases-loop-r : goal.decreases-loop-r
decreases-loop-r l = left l.trail l.work l.at l.r.0 l.initial.references l.q.0
