-- `lattice::corner_index` meets its contract.
use Rattle.std.proofs.Common.{arith}
use Rattle.lattice.proofs.Planes.{place_low}
use Rattle.lattice.proofs.corner_index.Goals as goal

pub returns : goal.returns
returns c = let a = c.args in (c.cell.ensures, omega (arith, place_low a.s.width a.s.height a.x a.y (omega arith) (omega arith)))
