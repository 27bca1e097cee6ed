-- `layers::paint` meets its contract. The loop's invariant: the first i layers are painted, and the next mask starts behind theirs.
use mathlib.Core.Path.{refl}
use native.Mathlib.Omega.{arith}
use Rattle.layers.specs.Layers.{mask_at}
use Rattle.layers.proofs.Layering.{none_painted, next_painted, one_asks, mask_fits, mask_next}
use Rattle.layers.proofs.paint.Goals as goal

pub loop-i-init : goal.loop-i-init
unfolding mask_at
loop-i-init c =
    let a = c.args in
    (refl, none_painted a.layers.now a.masks.now a.width a.height a.labels.now _ c.requires.canvas (c.fill.ensures.after (λ y h. h)))

pub paint_one-requires : goal.paint_one-requires
paint_one-requires c = let l = c.loop-i in let w = c.requires in one_asks w l.i c.loop-i-test.true l.invariant.0 l.invariant.1.long

pub overflow_add-mask : goal.overflow_add-mask
overflow_add-mask c = let l = c.loop-i in let w = c.requires in omega (arith, mask_fits w l.i c.loop-i-test.true, c.area-mask.ensures, l.invariant.0, c.well_formed)

pub loop-i-preserved : goal.loop-i-preserved
loop-i-preserved c =
    let l = c.loop-i in
    let a = c.args in
    let o = c.paint_one.ensures in
    (mask_next a.layers.now l.i l.mask _ l.invariant.0 c.area-mask.ensures, next_painted a.layers.now a.masks.now a.width a.height l.i l.labels _ l.invariant.1 o)
