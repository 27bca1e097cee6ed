-- `accept::segment_fits` meets its contract.
use native.Mathlib.Omega.{arith}
use Rattle.accept.proofs.Trying.{less_pred, is_ready, tried}
use Rattle.accept.proofs.segment_fits.Goals as goal

pub ends_fit-requires-clause-ready : goal.ends_fit-requires-clause-ready
ends_fit-requires-clause-ready c = is_ready _ _ c.args.nodes.now _ _ _ c.args.held _ _ _ _ _ c.word-first.ensures (less_pred c.word-count.ensures) c.steps_fit.ensures (c.if-steps_fit.true) (omega (arith, c.word-count.ensures, c.if-count-lt2.false)) (omega (arith, c.word-first.ensures, c.word-count.ensures, c.if-points-first.false)) (omega (arith, c.word-first.type_inv, c.word-count.type_inv))

pub returns-then-steps_fit : goal.returns-then-steps_fit
returns-then-steps_fit c = tried _ _ _ _ _ _ _ _ _ _ _ _ c.word-first.ensures (less_pred c.word-count.ensures) c.steps_fit.ensures (c.if-steps_fit.true) (omega (arith, c.word-count.ensures, c.if-count-lt2.false)) (omega (arith, c.word-first.ensures, c.word-count.ensures, c.if-points-first.false)) c.ends_fit.ensures
