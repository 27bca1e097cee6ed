-- `spread` meets its contract.
use mathlib.Core.Path.{◌≡◌, refl}
use native.Mathlib.Omega.{arith}
use lib.ListN.{length}
use Rattle.merge.proofs.Leaving.{spread_start, spread_go}
use Rattle.merge.proofs.spread.Goals as goal

pub loop-q-init : goal.loop-q-init
loop-q-init c = spread_start _ _ _ _ c.requires

pub loop-q-preserved : goal.loop-q-preserved
loop-q-preserved c = spread_go _ _ _ _ _ _ c.loop-q.invariant (omega (arith, c.loop-q-test.true, c.loop-q.invariant.long)) c.if-labels-q.false _ refl

pub returns : goal.returns
returns c = let e : length c.loop-q.labels ≡ c.loop-q.q = omega (arith, c.loop-q-test.false, c.loop-q.invariant.long, c.loop-q.invariant.most) in rw e c.loop-q.invariant
