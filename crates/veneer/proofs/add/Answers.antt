-- `add` meets its contract.
use mathlib.Core.Path.{ap}
use native.Mathlib.Omega.{arith}
use lib.IntN.{pos}
use lib.ListN.{get_or, set}
use Rattle.veneer.proofs.Signed.{small_fits, sum_fits, sum_is}
use Rattle.veneer.proofs.add.Goals as goal

pub overflow_add-numbers : goal.overflow_add-numbers
overflow_add-numbers c =
    let a = c.args in
    let v = get_or a.numbers.now a.i (pos 0) in
    sum_fits v a.t (small_fits v (omega arith)) c.ranges.t (omega arith)

pub returns-then-i-numbers : goal.returns-then-i-numbers
returns-then-i-numbers c =
    let a = c.args in
    let v = get_or a.numbers.now a.i (pos 0) in
    ap (set a.numbers.now a.i) (sum_is v a.t (small_fits v (omega arith)) c.ranges.t (omega arith))
