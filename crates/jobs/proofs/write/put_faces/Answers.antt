-- `jobs::write::put_faces` meets its contract. The loop's invariant: the records passed are put.
use native.Mathlib.Omega.{arith}
use Rattle.jobfile.specs.JobFile.{bytes_of}
use Rattle.jobs.specs.Stored.{stored_face}
use Rattle.jobs.proofs.Putting.{put_long, partly_none, partly_more, partly_all}
use Rattle.jobs.proofs.write.put_faces.Goals as goal

pub loop-i-init : goal.loop-i-init
loop-i-init c = let a = c.args in partly_none (λ k. bytes_of (stored_face a.from.faces.now a.from.contours.now a.from.references.now k)) a.n 0 a.out.now a.at c.requires

pub put_face-q-requires : goal.put_face-q-requires
put_face-q-requires c = c.loop-i.invariant.there.within

pub loop-i-preserved : goal.loop-i-preserved
loop-i-preserved c = partly_more c.loop-i.i (omega arith) c.loop-i-test.true c.loop-i.invariant c.put_face-q.ensures

pub shape_of-out : goal.shape_of-out
shape_of-out c = put_long c.loop-i.invariant.there

pub returns : goal.returns
returns c = partly_all c.loop-i-test.false c.loop-i.invariant
