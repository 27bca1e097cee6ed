-- The loop of `write::put_faces`: what it keeps.
use Rattle.jobfile.specs.JobFile.{bytes_of}
use Rattle.jobs.specs.Stored.{stored_face}
use Rattle.jobs.proofs.Putting.{Partly}
use Rattle.jobs.proofs.write.put_faces.Given as goal

abbrev pub invariant-loop-i : goal.invariant-loop-i
invariant-loop-i l = Partly (λ k. bytes_of (stored_face l.from.faces.now l.from.contours.now l.from.references.now k)) l.n 0 l.initial.out l.at l.out l.q l.i
