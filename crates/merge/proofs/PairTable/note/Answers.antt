-- `PairTable::note` meets its contract.
use native.Mathlib.Omega.{arith}
use Rattle.merge.proofs.Noting.{slot_fits, noted_old, noted_new}
use Rattle.merge.proofs.PairTable.note.Goals as goal

pub overflow_mul-slot : goal.overflow_mul-slot
overflow_mul-slot c = omega (arith, slot_fits c.args.a c.args.self.paints (omega (arith, c.ranges.a)) c.requires.paints)

pub overflow_add-slot : goal.overflow_add-slot
overflow_add-slot c = omega (arith, slot_fits c.args.a c.args.self.paints (omega (arith, c.ranges.a)) c.requires.paints, c.ranges.b)

pub returns-then-stands : goal.returns-then-stands
returns-then-stands c = noted_old _ _ _ _ _ (c.stands.ensures c.if-stands.true)

pub returns : goal.returns
returns c = noted_new c.args.self _ _ _ _ _ c.requires (omega arith)
