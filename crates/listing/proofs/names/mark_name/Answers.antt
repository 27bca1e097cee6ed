-- `names::mark_name` meets its contract.
use native.Mathlib.Omega.{arith}
use Rattle.listing.proofs.Naming.{none, known, new}
use Rattle.listing.proofs.names.mark_name.Goals as goal

pub returns-then-at-eq0 : goal.returns-then-at-eq0
returns-then-at-eq0 c =
    new c.requires c.below-first.ensures c.below-last.ensures c.if-first-last.true c.fill.ensures

pub returns-else-at-eq0 : goal.returns-else-at-eq0
returns-else-at-eq0 c =
    known c.requires c.below-first.ensures c.below-last.ensures c.if-first-last.true (rw c.at.ensures at c.if-at-eq0.false)

pub returns-else-first-last : goal.returns-else-first-last
returns-else-first-last c =
    none c.requires c.below-first.ensures c.below-last.ensures (omega (arith, c.if-first-last.false))
