-- `PairTable::right` meets its contract.
use native.Mathlib.Omega.{arith}
use Rattle.merge.proofs.Scanning.{right_none, right_some}
use Rattle.merge.proofs.PairTable.right.Goals as goal

pub returns-then-width-x : goal.returns-then-width-x
returns-then-width-x c = right_none _ _ _ _ c.requires.beside _ _ c.if-width-x.true

pub returns : goal.returns
returns c = right_some _ _ _ _ c.requires.beside _ _ _ _ (λ e. omega (arith, c.if-width-x.false)) c.touch.ensures
