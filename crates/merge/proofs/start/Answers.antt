-- `start` meets its contract.
use native.Mathlib.Omega.{arith}
use Rattle.merge.proofs.Calling.{start_counts, started}
use Rattle.merge.proofs.start.Goals as goal

pub count-requires : goal.count-requires
count-requires c = start_counts _ _ _ c.requires _ c.begin.ensures

pub returns : goal.returns
returns c = started _ _ _ c.requires _ _ _ c.begin.ensures c.count.ensures c.colour_all.ensures (λ i. omega (arith, c.type_inv.colours i))
