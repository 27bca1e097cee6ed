-- `sweep` meets its contract.
use native.Mathlib.Omega.{arith}
use Rattle.std.proofs.Common.{add-zero}
use Rattle.merge.proofs.Sweeping.{sweep_start, sweep_due, sweep_count, sweep_go, sweep_over}
use Rattle.merge.proofs.sweep.Goals as goal
use Rattle.merge.proofs.sweep.Goals.{then-visit, else-visit}

pub loop-k-init : goal.loop-k-init
loop-k-init c = sweep_start _ _ _ _ _

pub visit-requires : goal.visit-requires
visit-requires c = sweep_due _ _ _ _ _ _ _ _ c.loop-k.invariant c.requires c.loop-k-test.true

pub overflow_add-count : goal.overflow_add-count
overflow_add-count c = omega (arith, sweep_count _ _ _ _ _ _ _ _ c.loop-k.invariant c.requires, c.requires.ready.held.few)

pub loop-k-preserved : goal.loop-k-preserved
loop-k-preserved c = elim c.if-visit.branch [
  | then-visit w ↦ rw w.count-is (sweep_go _ _ _ _ _ _ _ _ c.loop-k.invariant _ _ c.loop-k-test.true (rw w.if-visit.true at c.visit.ensures))
  | else-visit w ↦ rw (w.count-is, ← add-zero c.loop-k.count) (sweep_go _ _ _ _ _ _ _ _ c.loop-k.invariant _ _ c.loop-k-test.true (rw w.if-visit.false at c.visit.ensures))
]

pub returns : goal.returns
returns c = sweep_over _ _ _ _ _ _ _ _ c.loop-k.invariant c.loop-k-test.false
