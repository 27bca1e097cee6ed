-- `assemble::list_rings` meets its contract.
use Rattle.assemble.proofs.Rings.{ring_low, no_ring, not_painted, ring_painted}
use Prim.Native.Nat.{◌<◌, ◌*◌}
use lib.ListN.{length}
use mathlib.Core.Path.{sym}
use native.Mathlib.Omega.{arith}
use native.Mathlib.Numerals.{add-one}
use Rattle.assemble.proofs.list_rings.Goals as goal
use Rattle.assemble.proofs.list_rings.Goals.{then-not-is_open+then-region-g, then-not-is_open+else-region-g, else-not-is_open}

pub overflow_add-p-then-region-g : goal.overflow_add-p-then-region-g
overflow_add-p-then-region-g c =
    let u = c.requires in
    let t = c.loop-i.invariant u.P u.ss u.work₀ u.total u.stage in
    omega (arith, t.room.space, c.well_formed, ring_low t (omega (arith, u.total, c.loop-i-test.true)))

pub overflow_add-j : goal.overflow_add-j
overflow_add-j c =
    let u = c.requires in
    let t = c.loop-i.invariant u.P u.ss u.work₀ u.total u.stage in
    omega (arith, t.room.space, c.well_formed, ring_low t (omega (arith, u.total, c.loop-i-test.true)))

pub loop-i-preserved : goal.loop-i-preserved
loop-i-preserved c =
    λ P ss work₀ n s.
    let t = c.loop-i.invariant P ss work₀ n s in
    let b : c.loop-i.i < 2 * length ss = omega (arith, n, c.loop-i-test.true) in
    elim c.if-not-is_open.branch [
      | then-not-is_open+then-region-g w ↦
          rw (w.work-is, w.j-is) (rw (add-one c.loop-i.i) (ring_painted t b (sym w.if-not-is_open.ensures) w.put.ensures (omega (arith, w.region-region.ensures, w.if-region-g.true)) w.put-then-region-g.ensures))
      | then-not-is_open+else-region-g w ↦
          rw (w.work-is, w.j-is, add-one) (not_painted t b (sym w.if-not-is_open.ensures) w.put.ensures (omega (arith, w.region-region.ensures, w.if-region-g.false)))
      | else-not-is_open w ↦ rw (w.work-is, w.j-is, add-one) (no_ring t b (sym w.if-not-is_open.ensures))
    ]
