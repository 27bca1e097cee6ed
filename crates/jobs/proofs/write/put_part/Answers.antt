-- `jobs::write::put_part` meets its contract. The loop's invariant: the words passed are put.
use mathlib.Core.Path.{sym}
use native.Mathlib.Omega.{arith}
use lib.ListN.{get_or}
use Rattle.jobfile.specs.JobFile.{word}
use Rattle.jobs.proofs.Putting.{put_as, put_long, partly_none, partly_more, partly_all, part_pieces}
use Rattle.jobs.proofs.write.put_part.Goals as goal

pub loop-i-init : goal.loop-i-init
loop-i-init c = let a = c.args in partly_none (λ j. word (get_or a.words.now j 0)) a.count a.first a.out.now a.at c.requires.0

pub overflow_add-first : goal.overflow_add-first
overflow_add-first c = omega (arith, c.requires)

pub put_from-q-requires : goal.put_from-q-requires
put_from-q-requires c = c.loop-i.invariant.there.within

pub loop-i-preserved : goal.loop-i-preserved
loop-i-preserved c = partly_more _ (omega arith) c.loop-i-test.true c.loop-i.invariant c.put_from-q.ensures

pub shape_of-out : goal.shape_of-out
shape_of-out c = put_long c.loop-i.invariant.there

pub returns : goal.returns
returns c = let a = c.args in put_as (sym (part_pieces a.words.now a.first a.count)) (partly_all c.loop-i-test.false c.loop-i.invariant)
