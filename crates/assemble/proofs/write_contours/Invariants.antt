-- The loop of `assemble::write_contours`: what it keeps and its measure.
use Rattle.assemble.specs.Trails.{word_of, Named}
use Rattle.assemble.proofs.Chains.{Sofar, ahead}
use Rattle.assemble.proofs.write_contours.Given as goal

abbrev pub invariant-loop-next : goal.invariant-loop-next
invariant-loop-next l = Named l.next × Sofar l.trail l.work (word_of l.initial.next) l.initial.d l.initial.references l.initial.contours l.references l.contours (word_of l.next) l.d.contours l.d.references

abbrev pub decreases-loop-next : goal.decreases-loop-next
decreases-loop-next l = ahead l.trail l.work (word_of l.initial.next) l.initial.d l.initial.references l.initial.contours (word_of l.next)
