-- `layers::masks_whole` meets its contract. The loop's invariant: what is left, and the masks so far, are all bytes.
use mathlib.Core.Path.{sym}
use native.Mathlib.Omega.{arith}
use Rattle.layers.specs.Layers.{mask_at}
use Rattle.layers.proofs.Masks.{masks_long, masks_next, masks_all}
use Rattle.layers.proofs.masks_whole.Goals as goal

pub loop-i-init : goal.loop-i-init
unfolding mask_at
loop-i-init c = omega arith

pub returns-then-left-a : goal.returns-then-left-a
returns-then-left-a c = let l = c.loop-i in sym (masks_long _ l.i l.left _ _ l.invariant c.area-a.ensures _ c.loop-i-test.true c.if-left-a.true)

pub loop-i-preserved : goal.loop-i-preserved
loop-i-preserved c = let l = c.loop-i in masks_next _ l.i l.left _ _ l.invariant c.area-a.ensures c.if-left-a.false

pub returns : goal.returns
returns c = let l = c.loop-i in masks_all _ _ l.i l.left _ (omega arith) l.invariant
