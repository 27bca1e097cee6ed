-- `lattice::cell` meets its contract.
use Rattle.std.proofs.Common.{arith}
use Rattle.lattice.proofs.Laws.{product}
use Rattle.lattice.proofs.cell.Goals as goal

pub overflow_mul-result : goal.overflow_mul-result
overflow_mul-result c = omega (arith, product c.args.y c.args.across c.requires.low c.requires.wide)

pub overflow_add-result : goal.overflow_add-result
overflow_add-result c = omega (arith, product c.args.y c.args.across c.requires.low c.requires.wide)
