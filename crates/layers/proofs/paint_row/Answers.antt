-- `layers::paint_row` meets its contract. The loop's invariant: the first k pixels are painted.
use mathlib.Core.Path.{◌≡◌}
use native.Mathlib.Omega.{arith}
use Rattle.layers.proofs.Stamps.{row_none, row_more}
use Rattle.layers.proofs.paint_row.Goals as goal

pub loop-k-init : goal.loop-k-init
loop-k-init c = row_none _ _ _ _ _

pub loop-k-preserved : goal.loop-k-preserved
loop-k-preserved c =
    let l = c.loop-k in
    let a = c.args in
    row_more a.masks.now a.to a.from a.number a.labels.now l.k l.labels _ (omega (arith, c.requires)) l.invariant c.over.ensures

pub returns : goal.returns
returns c = let e : c.loop-k.k ≡ c.args.n = omega arith in rw e at c.loop-k.invariant
