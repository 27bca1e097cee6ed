-- `sum_all` meets its contract.
use native.Mathlib.Numerals.{add-one}
use native.Mathlib.Omega.{arith}
use Rattle.veneer.proofs.Rows.{begun, then, all_measured}
use Rattle.veneer.proofs.sum_all.Goals as goal

pub loop-y-init : goal.loop-y-init
loop-y-init c = begun c.requires.measuring

pub loop-y-preserved : goal.loop-y-preserved
loop-y-preserved c = rw add-one (then c.loop-y.invariant c.find_row-g.ensures)

pub returns : goal.returns
returns c = all_measured c.loop-y-test.false c.loop-y.invariant

pub returns-2 : goal.returns-2
returns-2 c = all_measured (omega arith) (then c.loop-y.invariant c.find_row-g.ensures)
