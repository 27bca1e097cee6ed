-- `jobs::write::contours_size` meets its contract. The loop's invariant: t is the size of the contours passed.
use Prim.Native.Nat.{◌+◌, ◌%◌}
use mathlib.Core.Path.{◌≡◌, refl, ap, ◌∙◌}
use native.Mathlib.Omega.{arith}
use lib.ListN.{length}
use Rattle.rules.specs.Lists.{flat, upto}
use Rattle.jobs.specs.Stored.{pieces, stored_contour}
use Rattle.jobs.proofs.Putting.{contours_more}
use Rattle.jobs.proofs.write.contours_size.Goals as goal

pub loop-i-init : goal.loop-i-init
unfolding pieces flat upto
loop-i-init c = (omega arith, λ rs. refl)

pub loop-i-preserved : goal.loop-i-preserved
loop-i-preserved c =
    let a = c.args in
    let l = c.loop-i in
    (omega arith, λ rs. contours_more a.contours.now rs l.i a.first (a.first + l.i) c.get-c.result l.t refl c.get-c.ensures (l.invariant.1 rs))

pub returns : goal.returns
returns c =
    let a = c.args in
    let l = c.loop-i in
    let e : l.i ≡ a.n = omega arith in
    (l.invariant.0, λ rs. l.invariant.1 rs ∙ ap (λ k. length (pieces (stored_contour a.contours.now rs) k a.first) % 4294967296) e)
