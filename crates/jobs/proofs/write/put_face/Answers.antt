-- `jobs::write::put_face` meets its contract.
use Rattle.jobs.proofs.Putting.{◌then◌, put_as, face_bytes}
use Rattle.jobs.proofs.write.put_face.Goals as goal

pub returns : goal.returns
returns c =
    let a = c.args in
    put_as (face_bytes a.from.faces.now a.from.contours.now a.from.references.now a.i c.get-first.result c.get-n.result c.contours_size-size.result c.get-first.ensures c.get-n.ensures (c.contours_size-size.ensures.1 a.from.references.now))
    (c.put_head-q.ensures then c.put_from-q.ensures then c.put_from-q-2.ensures then c.put_from-q-3.ensures then c.put_word-q.ensures then c.put_contours.ensures)
