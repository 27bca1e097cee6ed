-- `assemble::list_islands` meets its contract.
use Rattle.assemble.proofs.Leaders.{begin, unpainted, follower, leading}
use mathlib.Core.Path.{sym, ◌∙◌}
use native.Mathlib.Omega.{arith}
use native.Mathlib.Numerals.{add-one}
use Rattle.assemble.proofs.list_islands.Goals as goal
use Rattle.assemble.proofs.list_islands.Goals.{then-seen-paints+then-get-p, else-seen-paints, else-seen-paints-via-then-seen-paints+else-get-p, else-seen-paints-via-else-seen-paints}

pub loop-p-init : goal.loop-p-init
loop-p-init c = begin c.requires

pub loop-p-preserved : goal.loop-p-preserved
loop-p-preserved c =
    let t = c.loop-p.invariant in
    let b = c.loop-p-test.true in
    let e = c.seen.ensures in
    elim c.if-seen-paints.branch [
      | then-seen-paints+then-get-p w ↦ rw (w.work-is, w.m-is) (rw (add-one c.loop-p.p) (leading t b (omega (arith, e, w.if-seen-paints.true)) (sym w.get.ensures ∙ w.if-get-p.true) w.put.ensures w.put-then-get-p.ensures))
      | else-seen-paints w ↦
          rw (w.work-is, w.m-is, add-one) (elim w.else-seen-paints.branch [
            | else-seen-paints-via-then-seen-paints+else-get-p v ↦ follower t b (omega (arith, e, v.if-seen-paints.true)) (λ z. v.if-get-p.false (v.get.ensures ∙ z))
            | else-seen-paints-via-else-seen-paints v ↦ unpainted t b (omega (arith, e, v.if-seen-paints.false))
          ])
    ]
