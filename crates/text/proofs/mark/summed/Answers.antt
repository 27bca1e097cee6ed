-- `mark::summed` meets its contract.
use Rattle.std.proofs.Common.{refl, arith}
use Rattle.text.proofs.Marking.{summed_none, summed_more}
use Rattle.text.proofs.mark.summed.Goals as goal

pub loop-i-init : goal.loop-i-init
loop-i-init g c = summed_none _ _

pub loop-i-preserved : goal.loop-i-preserved
loop-i-preserved g c = summed_more _ _ _ _ _ _ c.loop-i.invariant (c.requires.1.1 _ _ (omega arith) (omega (arith, c.ranges.n.fits)) c.east-total.ensures) refl
