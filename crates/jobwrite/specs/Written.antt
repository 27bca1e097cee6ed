-- How the writer's answer and its numbers stand for those of the rules.
use Rattle.std.specs.Prelude.{ℕ, List, Result, Ok, Err}
use Rattle.lattice.specs.declared.Size.{Size}
use Rattle.calls.specs.declared.Counts.{Counts}
use Rattle.calls.specs.declared.Refused.{Refused}
use Rattle.calls.specs.Outcome.{outcome}
use Rattle.jobfile.specs.JobFile.{Written}
use Rattle.jobs.specs.declared.write.Job.{Job}
use Rattle.jobwrite.specs.declared.Written.{Written as WrittenCode}

-- the numbers of a map, and its counts
abbrev pub job_of : Size → Counts → Job
job_of s c =
    record {
      width = s.width;
      height = s.height;
      paints = s.paints;
      segments = c.segments;
      points = c.points;
      references = c.references;
      contours = c.contours;
      faces = c.faces;
    }

-- the call's answer
abbrev pub counts_in : Result WrittenCode Refused → Result Counts Refused
counts_in (Ok w) = Ok w.counts
counts_in (Err r) = Err r

-- the file's length, 0 when refused
abbrev pub length_in : Result WrittenCode Refused → ℕ
length_in (Ok w) = w.length
length_in (Err r) = 0

-- an answer, and every lent store afterwards
abbrev pub written_as : Result WrittenCode Refused → List (List ℕ) → Written
written_as r stores = record { outcome = outcome (counts_in r) stores; length = length_in r }
