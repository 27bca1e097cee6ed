-- `layers::paint_layer` meets its contract. The loop's invariant: the first k rows are painted.
use mathlib.Core.Path.{◌≡◌, refl, ◌∙◌}
use native.Mathlib.Omega.{arith}
use Rattle.layers.proofs.Stamps.{to_fits, from_fits, layer_none, layer_blank, layer_more}
use Rattle.layers.proofs.paint_layer.Goals as goal

pub returns-then-cols-eq0 : goal.returns-then-cols-eq0
returns-then-cols-eq0 c = layer_blank _ _ _ _ _ _ c.if-cols-eq0.true

pub loop-k-init : goal.loop-k-init
loop-k-init c = (layer_none _ _ _ _ _, refl)

pub paint_row-requires : goal.paint_row-requires
paint_row-requires c = (rw c.loop-k.invariant.1 (to_fits c.requires c.loop-k.k (omega arith)), from_fits c.requires c.loop-k.k (omega arith))

pub loop-k-preserved : goal.loop-k-preserved
loop-k-preserved c = let l = c.loop-k in let p = c.paint_row.ensures in (layer_more _ _ _ _ _ l.k l.labels _ c.requires.across l.invariant.0 p, p.long ∙ l.invariant.1)

pub returns : goal.returns
returns c = let e : c.loop-k.k ≡ c.args.stamp.rows.count = omega arith in rw e at c.loop-k.invariant.0
