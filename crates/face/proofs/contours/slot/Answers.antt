-- `contours::slot` meets its contract.
use mathlib.Core.Path.{ap}
use Prim.Native.Nat.{◌+◌}
use native.Mathlib.Omega.{arith}
use Rattle.lattice.proofs.Planes.{place_low}
use Rattle.face.proofs.contours.slot.Goals as goal

pub returns : goal.returns
returns c =
    let a = c.args in
    (ap (λ n. a.at + n) c.cell.ensures, omega (arith, c.cell.ensures, place_low a.s.width a.s.height a.x a.y (omega arith) (omega arith)))
