-- `PairTable::below` meets its contract.
use native.Mathlib.Omega.{arith}
use Rattle.merge.proofs.Scanning.{below_none, below_some}
use Rattle.merge.proofs.PairTable.below.Goals as goal

pub returns-then-labels-p : goal.returns-then-labels-p
returns-then-labels-p c = below_none _ _ _ c.requires.pixel.0 _ _ c.if-labels-p.true

pub returns : goal.returns
returns c = below_some _ _ _ c.requires.pixel.0 _ _ _ _ (λ e. omega (arith, c.if-labels-p.false)) c.touch.ensures
