-- `tally` meets its contract.
use mathlib.Core.Path.{refl}
use native.Mathlib.Omega.{arith}
use Rattle.merge.proofs.Beginning.{tally_inner, tally_outside, tally_one}
use Rattle.merge.proofs.tally.Goals as goal

pub returns-then-l-eq-OUTSIDE : goal.returns-then-l-eq-OUTSIDE
returns-then-l-eq-OUTSIDE c = tally_outside _ _ _ c.requires c.if-l-eq-OUTSIDE.true

pub get-area-requires : goal.get-area-requires
get-area-requires c = omega (arith, tally_inner _ _ _ c.requires c.if-l-eq-OUTSIDE.false, c.requires.rooms.room)

pub overflow_add-area : goal.overflow_add-area
overflow_add-area c = omega (arith, c.requires.small (tally_inner _ _ _ c.requires c.if-l-eq-OUTSIDE.false), c.get-area.ensures)

pub put-requires : goal.put-requires
put-requires c = omega (arith, tally_inner _ _ _ c.requires c.if-l-eq-OUTSIDE.false, c.requires.rooms.room)

pub returns : goal.returns
returns c = tally_one _ _ _ _ c.requires (tally_inner _ _ _ c.requires c.if-l-eq-OUTSIDE.false) (rw (c.put.ensures, c.get-area.ensures) refl)
