-- `colour_all` meets its contract.
use Rattle.merge.proofs.Colouring.{colour_start, colour_go, colour_over}
use Rattle.merge.proofs.colour_all.Goals as goal

pub loop-l-init : goal.loop-l-init
loop-l-init c = colour_start _ _ _

pub loop-l-preserved : goal.loop-l-preserved
loop-l-preserved c = colour_go _ _ _ _ _ _ c.requires.regions c.loop-l.invariant c.loop-l-test.true c.colour.ensures

pub returns : goal.returns
returns c = colour_over _ _ _ _ _ c.loop-l.invariant c.loop-l-test.false
