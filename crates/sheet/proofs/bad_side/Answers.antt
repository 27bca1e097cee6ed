-- `sheet::bad_side` meets its contract: the constants 0.0 and 3000.0 of the code are those of the definition.
use lib.Ieee.{of_bits, of_int}
use Rattle.sheet.proofs.Calls.{side_above, side_not_above}
use Rattle.sheet.proofs.bad_side.Goals as goal

pub returns-then-not-side : goal.returns-then-not-side
unfolding of_bits of_int
returns-then-not-side c = rw c.if-not-side.true (side_not_above c.args.side c.if-not-side.true)

pub returns-else-not-side : goal.returns-else-not-side
unfolding of_bits of_int
returns-else-not-side c = side_above c.args.side c.if-not-side.false
