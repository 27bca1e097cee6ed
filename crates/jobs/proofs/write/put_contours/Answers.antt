-- `jobs::write::put_contours` meets its contract. The loop's invariant: the contours passed are put.
use native.Mathlib.Omega.{arith}
use Rattle.jobfile.specs.JobFile.{word_bytes}
use Rattle.jobs.specs.Stored.{stored_contour}
use Rattle.jobs.proofs.Putting.{put_long, partly_none, partly_more, partly_all}
use Rattle.jobs.proofs.write.put_contours.Goals as goal

pub loop-i-init : goal.loop-i-init
loop-i-init c = let a = c.args in partly_none (λ k. word_bytes (stored_contour a.from.contours.now a.from.references.now k)) a.n a.first a.out.now a.at c.requires

pub put_contour-q-requires : goal.put_contour-q-requires
put_contour-q-requires c = (c.loop-i.invariant.there.within, omega arith)

pub loop-i-preserved : goal.loop-i-preserved
loop-i-preserved c = partly_more _ (omega arith) c.loop-i-test.true c.loop-i.invariant c.put_contour-q.ensures

pub shape_of-out : goal.shape_of-out
shape_of-out c = put_long c.loop-i.invariant.there

pub returns : goal.returns
returns c = partly_all c.loop-i-test.false c.loop-i.invariant
