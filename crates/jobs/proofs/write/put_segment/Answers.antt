-- `jobs::write::put_segment` meets its contract.
use Rattle.jobs.proofs.Putting.{◌then◌, put_as, segment_bytes}
use Rattle.jobs.proofs.write.put_segment.Goals as goal

pub returns : goal.returns
returns c =
    let a = c.args in
    put_as (segment_bytes a.from.segments.now a.from.points.now a.i c.get-first.result c.get-count.result c.get-first.ensures c.get-count.ensures)
    (c.put_head-q.ensures then c.put_part.ensures)
