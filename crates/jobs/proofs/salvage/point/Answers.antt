-- `jobs::salvage::point` meets its contract.
use native.Mathlib.Omega.{arith}
use Rattle.jobs.proofs.Bodies.{words_many}
use Rattle.jobs.proofs.salvage.point.Goals as goal

pub overflow_mul-i : goal.overflow_mul-i
overflow_mul-i c = let m = words_many c.args.body.now in omega (arith, c.requires, c.well_formed)

pub overflow_mul-i-2 : goal.overflow_mul-i-2
overflow_mul-i-2 c = let m = words_many c.args.body.now in omega (arith, c.requires, c.well_formed)

pub overflow_add-i : goal.overflow_add-i
overflow_add-i c = let m = words_many c.args.body.now in omega (arith, c.requires, c.well_formed)
