-- `begin` meets its contract.
use Rattle.merge.proofs.Beginning.{begin_start, begin_go, begin_over}
use Rattle.merge.proofs.begin.Goals as goal

pub loop-l-init : goal.loop-l-init
loop-l-init c = begin_start _ _

pub loop-l-preserved : goal.loop-l-preserved
loop-l-preserved c = begin_go _ _ _ _ _ _ c.requires c.loop-l.invariant c.loop-l-test.true c.put.ensures c.put-in-loop-l.ensures

pub returns : goal.returns
returns c = begin_over _ _ _ _ c.requires c.loop-l.invariant c.loop-l-test.false
