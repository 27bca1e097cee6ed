-- `jobs::write::put_contour` meets its contract.
use Rattle.jobs.proofs.Putting.{◌then◌, put_as, contour_bytes}
use Rattle.jobs.proofs.write.put_contour.Goals as goal

pub returns : goal.returns
returns c =
    let a = c.args in
    put_as (contour_bytes a.from.contours.now a.from.references.now a.k c.get-first.result c.get-count.result c.get-first.ensures c.get-count.ensures)
    (c.put_word-q.ensures then c.put_part.ensures)
