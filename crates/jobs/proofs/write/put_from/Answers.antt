-- `jobs::write::put_from` meets its contract.
use mathlib.Core.Path.{ap}
use Rattle.jobfile.specs.JobFile.{word}
use Rattle.jobs.proofs.Putting.{put_as}
use Rattle.jobs.proofs.write.put_from.Goals as goal

pub returns : goal.returns
returns c = put_as (ap word c.get.ensures) c.put_word.ensures
