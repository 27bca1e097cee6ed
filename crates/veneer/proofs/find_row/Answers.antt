-- `find_row` meets its contract.
use native.Mathlib.Numerals.{add-one}
use native.Mathlib.Omega.{arith}
use Rattle.veneer.proofs.Rows.{begun, then, row_end}
use Rattle.veneer.proofs.find_row.Goals as goal

pub loop-x-init : goal.loop-x-init
loop-x-init c = begun c.requires.measuring

pub loop-x-preserved : goal.loop-x-preserved
loop-x-preserved c = rw add-one (then c.loop-x.invariant c.find-g.ensures)

pub returns : goal.returns
returns c = row_end (omega arith) c.loop-x.invariant
