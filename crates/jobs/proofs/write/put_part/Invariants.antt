-- The loop of `write::put_part`: what it keeps.
use lib.ListN.{get_or}
use Rattle.jobfile.specs.JobFile.{word}
use Rattle.jobs.proofs.Putting.{Partly}
use Rattle.jobs.proofs.write.put_part.Given as goal

abbrev pub invariant-loop-i : goal.invariant-loop-i
invariant-loop-i l = Partly (λ j. word (get_or l.words j 0)) l.count l.first l.initial.out l.at l.out l.q l.i
