-- `accept::nodes_fit` meets its contract.
use native.Mathlib.Omega.{arith}
use Rattle.accept.proofs.Stepping.{say_yes}
use Rattle.accept.proofs.Noding.{node_more}
use Rattle.accept.proofs.nodes_fit.Goals as goal

pub loop-i-preserved : goal.loop-i-preserved
loop-i-preserved c = λ points. node_more c.args.s _ _ _ points _ _ _ (c.loop-i.invariant points) ((c.node_fits.ensures _ points).yes c.if-not-node_fits.false)

pub returns : goal.returns
returns c = λ points. say_yes (λ j h. c.loop-i.invariant points j (omega (arith, c.loop-i-test.false, h)))
