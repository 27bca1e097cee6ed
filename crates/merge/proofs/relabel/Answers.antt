-- `relabel` meets its contract.
use Rattle.merge.proofs.Leaving.{pass_start, pass_asks, pass_go, pass_over}
use Rattle.merge.proofs.relabel.Goals as goal

pub loop-p-init : goal.loop-p-init
loop-p-init c = pass_start _ _ _ _ _ c.requires

pub relabel_one-k-requires : goal.relabel_one-k-requires
relabel_one-k-requires c = pass_asks _ _ _ _ _ c.requires _ _ _ _ _ _ c.loop-p.invariant c.loop-p-test.true

pub loop-p-preserved : goal.loop-p-preserved
loop-p-preserved c =
    pass_go _ _ _ _ _ c.requires _ _ _ _ _ _ c.loop-p.invariant _ _ _ _ _ c.loop-p-test.true c.relabel_one-k.ensures _ _ c.spread-p.ensures

pub returns : goal.returns
returns c = pass_over _ _ _ _ _ c.requires _ _ _ _ _ _ c.loop-p.invariant c.loop-p-test.false
