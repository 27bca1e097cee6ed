-- `accept::steps_fit` meets its contract.
use Rattle.accept.proofs.Walking.{begins, stops_at, goes_on}
use Rattle.accept.proofs.steps_fit.Goals as goal

pub loop-k-init : goal.loop-k-init
loop-k-init c = begins _ _ _

pub returns-then-not-step_fits : goal.returns-then-not-step_fits
returns-then-not-step_fits c = stops_at _ _ _ c.loop-k.invariant c.loop-k-test.true c.step_fits.ensures.0 c.step_fits.ensures.1 c.if-not-step_fits.true

pub loop-k-preserved : goal.loop-k-preserved
loop-k-preserved c = goes_on _ _ _ c.loop-k.invariant c.loop-k-test.true c.step_fits.ensures.0 c.step_fits.ensures.1 c.if-not-step_fits.false
