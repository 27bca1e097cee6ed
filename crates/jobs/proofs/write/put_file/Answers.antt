-- `jobs::write::put_file` meets its contract.
use Rattle.jobs.specs.Stored.{stored_file}
use Rattle.jobs.proofs.Putting.{◌then◌}
use Rattle.jobs.proofs.write.put_file.Goals as goal

pub returns : goal.returns
unfolding stored_file
returns c = c.put_map-q.ensures then c.put_segments-q.ensures then c.put_faces.ensures
