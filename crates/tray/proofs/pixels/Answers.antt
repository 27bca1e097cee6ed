-- `tray::pixels` meets its contract.
use native.Mathlib.Omega.{arith}
use Rattle.tray.proofs.Passing.{product_fits}
use borrow.Author.Rules.{rules}
use Rattle.tray.proofs.pixels.Goals as goal

pub overflow_mul-result : goal.overflow_mul-result
overflow_mul-result c = omega (arith, product_fits c.args.s.width c.args.s.height (search rules) (search rules))
