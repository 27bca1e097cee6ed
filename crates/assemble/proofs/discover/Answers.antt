-- `assemble::discover` meets its contract.
use Rattle.assemble.proofs.Staging.{found_low, skip_ring, skip_outside, skip_used, live, live_closes, unpainted, painted}
use Prim.Native.Nat.{◌<◌, ◌*◌}
use lib.ListN.{length}
use mathlib.Core.Path.{sym, ◌∙◌}
use native.Mathlib.Omega.{arith}
use native.Mathlib.Numerals.{add-one}
use Rattle.assemble.proofs.discover.Goals as goal
use Rattle.assemble.proofs.discover.Goals.{then-is_open+then-region+then-get+then-region-g, then-is_open+then-region+then-get+else-region-g, else-is_open, else-is_open-via-then-is_open+then-region+else-get, else-is_open-via-then-is_open+else-region, else-is_open-via-else-is_open}

pub follow-last-requires-clause-closes : goal.follow-last-requires-clause-closes
follow-last-requires-clause-closes c =
    let u = c.requires in
    let t = c.loop-i.invariant u.ss u.work₀ u.total u.stage in
    let b : c.loop-i.i < 2 * length u.ss = omega (arith, u.total, c.loop-i-test.true) in
    live_closes _ _ _ _ _ t.drawn _ (live t b (sym c.if-is_open.ensures) (λ z. omega (arith, c.if-region.true, c.region-region.ensures, c.well_formed)))

pub overflow_add-p-then-region-g : goal.overflow_add-p-then-region-g
overflow_add-p-then-region-g c =
    let u = c.requires in
    let t = c.loop-i.invariant u.ss u.work₀ u.total u.stage in
    omega (arith, t.room.space, c.well_formed, found_low t (omega (arith, u.total, c.loop-i-test.true)))

pub overflow_add-k : goal.overflow_add-k
overflow_add-k c =
    let u = c.requires in
    let t = c.loop-i.invariant u.ss u.work₀ u.total u.stage in
    omega (arith, t.room.space, c.well_formed, found_low t (omega (arith, u.total, c.loop-i-test.true)))

pub loop-i-preserved : goal.loop-i-preserved
loop-i-preserved c =
    let region = c.region-region.ensures in
    let opens = c.is_open.ensures in
    let room = c.well_formed in
    λ ss work₀ n s.
    let t = c.loop-i.invariant ss work₀ n s in
    let b : c.loop-i.i < 2 * length ss = omega (arith, n, c.loop-i-test.true) in
    elim c.if-is_open.branch [
      | then-is_open+then-region+then-get+then-region-g w ↦
          rw (w.work-is, w.k-is) (rw (add-one c.loop-i.i) (painted t b (sym opens ∙ w.if-is_open.true) (λ z. omega (arith, w.if-region.true, region, room)) (sym w.get.ensures ∙ w.if-get.true) w.follow-last.ensures (omega (arith, region, w.if-region-g.true)) w.put.ensures))
      | then-is_open+then-region+then-get+else-region-g w ↦
          rw (w.work-is, w.k-is, add-one) (unpainted t b (sym opens ∙ w.if-is_open.true) (λ z. omega (arith, w.if-region.true, region, room)) (sym w.get.ensures ∙ w.if-get.true) w.follow-last.ensures (omega (arith, region, w.if-region-g.false)))
      | else-is_open w ↦
          rw (w.work-is, w.k-is, add-one) (elim w.else-is_open.branch [
            | else-is_open-via-then-is_open+then-region+else-get v ↦ skip_used t b (sym opens ∙ v.if-is_open.true) (λ z. omega (arith, v.if-region.true, region, room)) (λ z. v.if-get.false (v.get.ensures ∙ z))
            | else-is_open-via-then-is_open+else-region v ↦ skip_outside t b (sym opens ∙ v.if-is_open.true) (omega (arith, region, v.if-region.false))
            | else-is_open-via-else-is_open v ↦ skip_ring t b (sym opens ∙ v.if-is_open.false)
          ])
    ]
