-- `jobs::write::put_head` meets its contract.
use mathlib.Core.Path.{ap}
use mathlib.Core.List.{[], ◌∷◌, ◌++◌}
use Rattle.jobfile.specs.JobFile.{word}
use Rattle.jobs.proofs.Putting.{◌then◌, put_as}
use Rattle.jobs.proofs.write.put_head.Goals as goal

pub returns : goal.returns
returns c = put_as (ap (λ k. word c.args.size ++ (k ∷ 0 ∷ [])) c.number.ensures) (c.put_word-q.ensures then c.put_byte-q.ensures then c.put_byte.ensures)
