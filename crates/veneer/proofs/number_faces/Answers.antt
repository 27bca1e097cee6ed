-- `number_faces` meets its contract.
use mathlib.Core.Path.{◌≡◌, refl}
use native.Mathlib.Omega.{arith}
use Rattle.veneer.proofs.Numbering.{none_yet, low, one_more}
use Rattle.veneer.proofs.number_faces.Goals as goal

pub loop-k-init : goal.loop-k-init
loop-k-init c = none_yet

pub overflow_add-heads : goal.overflow_add-heads
overflow_add-heads c =
    omega (arith, low c.requires c.loop-k-test.true c.loop-k.invariant c.get-p.ensures, c.requires.apart, c.requires.low)

pub loop-k-preserved : goal.loop-k-preserved
loop-k-preserved c = one_more c.requires c.loop-k-test.true c.loop-k.invariant c.get-p.ensures c.put.ensures refl

pub returns : goal.returns
returns c = let e : c.loop-k.k ≡ c.args.m = omega arith in rw e at c.loop-k.invariant
