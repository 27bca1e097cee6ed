-- `lattice::plane` meets its contract.
use Rattle.std.proofs.Common.{refl, arith}
use Rattle.lattice.proofs.Planes.{plane_low}
use Rattle.lattice.proofs.plane.Goals as goal

pub overflow_mul-result : goal.overflow_mul-result
overflow_mul-result c = omega (arith, plane_low c.args.s.width c.args.s.height (omega arith) (omega arith))

pub returns : goal.returns
returns c = (refl, plane_low c.args.s.width c.args.s.height (omega arith) (omega arith))
