-- `layers::paint_one` meets its contract.
use native.Mathlib.Omega.{arith}
use Rattle.layers.proofs.Layering.{layer_fits, one_more}
use Rattle.layers.proofs.paint_one.Goals as goal

pub paint_layer-requires : goal.paint_layer-requires
paint_layer-requires c =
    let a = c.args in
    let cols = rw (c.at-x.ensures, c.at-w.ensures) at c.clipped.ensures in
    let rows = rw (c.at-y.ensures, c.at-h.ensures) at c.clipped-2.ensures in
    rw c.at-w.ensures (layer_fits a.layers.now a.masks.now a.width a.height a.i a.mask a.labels.now c.requires cols rows (rw (← c.at-h.ensures) (omega arith)))

pub returns : goal.returns
returns c =
    let a = c.args in
    let cols = rw (c.at-x.ensures, c.at-w.ensures) at c.clipped.ensures in
    let rows = rw (c.at-y.ensures, c.at-h.ensures) at c.clipped-2.ensures in
    one_more a.layers.now a.masks.now a.width a.height a.i a.mask a.labels.now c.requires cols rows _ (rw c.at-w.ensures at c.paint_layer.ensures)
