-- The loop of `write::put_segments`: what it keeps.
use Rattle.jobfile.specs.JobFile.{bytes_of}
use Rattle.jobs.specs.Stored.{stored_segment}
use Rattle.jobs.proofs.Putting.{Partly}
use Rattle.jobs.proofs.write.put_segments.Given as goal

abbrev pub invariant-loop-i : goal.invariant-loop-i
invariant-loop-i l = Partly (λ k. bytes_of (stored_segment l.from.segments.now l.from.points.now k)) l.n 0 l.initial.out l.at l.out l.q l.i
