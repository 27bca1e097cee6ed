-- `assemble::left_pixel` meets its contract.
use Rattle.assemble.proofs.FirstSteps.{pixel_low}
use native.Mathlib.Omega.{arith}
use native.Mathlib.Numerals.{sub-one}
use Rattle.rules.specs.Picture.{picture}
use Rattle.rules.specs.Face.{beside_at}
use Rattle.assemble.proofs.left_pixel.Goals as goal

pub returns-in-N : goal.returns-in-N
unfolding picture beside_at
returns-in-N c =
    let f = c.requires in
    (rw (c.cell.ensures, c.in-N.is) (simp sub-one), pixel_low _ _ _ _ c.cell.ensures f.wide (omega (arith, f.across)) (omega (arith, f.down)))

pub returns-in-E : goal.returns-in-E
unfolding picture beside_at
returns-in-E c =
    let f = c.requires in
    (rw (c.cell-in-E.ensures, c.in-E.is, sub-one), pixel_low _ _ _ _ c.cell-in-E.ensures f.wide f.across (omega (arith, f.down)))

pub returns-in-S : goal.returns-in-S
unfolding picture beside_at
returns-in-S c =
    let f = c.requires in
    (rw (c.cell-in-S.ensures, c.in-S.is), pixel_low _ _ _ _ c.cell-in-S.ensures f.wide f.across f.down)

pub returns-in-W : goal.returns-in-W
unfolding picture beside_at
returns-in-W c =
    let f = c.requires in
    (rw (c.cell-in-W.ensures, c.in-W.is, sub-one), pixel_low _ _ _ _ c.cell-in-W.ensures f.wide (omega (arith, f.across)) f.down)
