-- `settle` meets its contract.
use Rattle.merge.proofs.Sweeping.{settle_start, settle_due, settle_over, settle_less, settle_go}
use Rattle.merge.proofs.settle.Goals as goal

pub loop-n-init : goal.loop-n-init
loop-n-init c = settle_start _ _ _ _

pub sweep-requires : goal.sweep-requires
sweep-requires c = settle_due _ _ _ _ _ _ c.loop-n.invariant c.requires

pub returns-then-sweep-eq0 : goal.returns-then-sweep-eq0
returns-then-sweep-eq0 c = settle_over _ _ _ _ _ _ c.loop-n.invariant _ _ c.if-sweep-eq0.true c.sweep.ensures

pub loop-n-smaller : goal.loop-n-smaller
loop-n-smaller c = settle_less _ _ _ _ _ _ c.loop-n.invariant c.requires _ _ c.if-sweep-eq0.false c.sweep.ensures

pub loop-n-preserved : goal.loop-n-preserved
loop-n-preserved c = settle_go _ _ _ _ _ _ c.loop-n.invariant _ _ c.if-sweep-eq0.false c.sweep.ensures
