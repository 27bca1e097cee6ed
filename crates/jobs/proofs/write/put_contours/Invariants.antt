-- The loop of `write::put_contours`: what it keeps.
use Rattle.jobfile.specs.JobFile.{word_bytes}
use Rattle.jobs.specs.Stored.{stored_contour}
use Rattle.jobs.proofs.Putting.{Partly}
use Rattle.jobs.proofs.write.put_contours.Given as goal

abbrev pub invariant-loop-i : goal.invariant-loop-i
invariant-loop-i l = Partly (λ k. word_bytes (stored_contour l.from.contours.now l.from.references.now k)) l.n l.first l.initial.out l.at l.out l.q l.i
