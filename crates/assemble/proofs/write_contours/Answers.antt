-- `assemble::write_contours` meets its contract.
use Rattle.assemble.proofs.Chains.{begin, over, at_low, goes_here, place_low, next_named, going, fewer}
use native.Mathlib.Omega.{arith}
use mathlib.Core.Path.{ap}
use Rattle.assemble.specs.Trails.{word_of}
use Rattle.assemble.proofs.write_contours.Goals as goal

pub loop-next-init : goal.loop-next-init
loop-next-init c = (c.requires.named, begin _ _ _ _ _ _ c.requires.chain)

pub write_references-run-requires-clause-going : goal.write_references-run-requires-clause-going
write_references-run-requires-clause-going c =
    let i = c.loop-next.invariant in
    goes_here _ _ _ _ _ _ (rw c.in-Some.is at i.1) (rw c.in-Some.is at i.0)

pub write_references-run-requires-clause-low : goal.write_references-run-requires-clause-low
write_references-run-requires-clause-low c = at_low _ _ _ _ _ _ c.loop-next.invariant.1

pub overflow_cast-at : goal.overflow_cast-at
overflow_cast-at c = omega (arith, at_low _ _ _ _ _ _ c.loop-next.invariant.1)

pub overflow_cast-run : goal.overflow_cast-run
overflow_cast-run c =
    let i = c.loop-next.invariant in
    omega (arith, place_low _ _ _ _ _ _ (rw c.in-Some.is at i.1) (rw c.in-Some.is at i.0) c.write_references-run.ensures)

pub overflow_add-d-in-Some : goal.overflow_add-d-in-Some
overflow_add-d-in-Some c =
    let i = c.loop-next.invariant in
    omega (arith, place_low _ _ _ _ _ _ (rw c.in-Some.is at i.1) (rw c.in-Some.is at i.0) c.write_references-run.ensures)

pub loop-next-smaller : goal.loop-next-smaller
loop-next-smaller c =
    let i = c.loop-next.invariant in
    rw c.in-Some.is (fewer _ _ _ _ _ _ (rw c.in-Some.is at i.1) (rw c.in-Some.is at i.0) c.write_references-run.ensures c.put_contour.ensures)

pub loop-next-preserved : goal.loop-next-preserved
loop-next-preserved c =
    let i = c.loop-next.invariant in
    let o = rw c.in-Some.is at i.1 in
    let n = rw c.in-Some.is at i.0 in
    (next_named _ _ _ _ _ _ o n c.write_references-run.ensures, going _ _ _ _ _ _ o n c.write_references-run.ensures c.put_contour.ensures)

pub returns : goal.returns
returns c = over _ _ _ _ _ _ c.loop-next.invariant.1 (ap word_of c.in_default.is)
