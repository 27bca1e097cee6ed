-- `count` meets its contract.
use Rattle.merge.proofs.Beginning.{count_start, count_tallies, count_go, count_over}
use Rattle.merge.proofs.count.Goals as goal

pub loop-l-init : goal.loop-l-init
loop-l-init c = count_start _ _ _ c.requires

pub tally-requires : goal.tally-requires
tally-requires c = count_tallies _ _ _ c.requires _ _ c.loop-l.invariant c.loop-l-test.true

pub loop-l-preserved : goal.loop-l-preserved
loop-l-preserved c = count_go _ _ _ c.requires _ _ c.loop-l.invariant c.loop-l-test.true _ c.tally.ensures

pub returns : goal.returns
returns c = count_over _ _ _ _ _ c.loop-l.invariant c.loop-l-test.false
