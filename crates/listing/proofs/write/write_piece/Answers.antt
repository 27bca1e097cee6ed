-- `write::write_piece` meets its contract.
use Prim.Native.Nat.{◌-◌}
use mathlib.Core.Path.{◌≡◌, ◌∙◌}
use native.Mathlib.Omega.{arith}
use Rattle.listing.specs.Writing.{start_in}
use Rattle.listing.proofs.Chains.{nothing, end_low, begins, goes_on, less, is_over_lem}
use Rattle.listing.proofs.write.write_piece.Goals as goal

pub loop-k-init : goal.loop-k-init
loop-k-init c =
    (omega (arith, c.get-k.type_inv), rw (c.get-k.ensures, c.plane-plane.ensures.0) (nothing c.requires.strung c.requires.low))

pub write_contour-end-requires : goal.write_contour-end-requires
write_contour-end-requires c =
    let started : c.decode-w.result ≡ start_in c.args.s c.args.work.now (c.loop-k.k - 1) = c.decode-w.ensures ∙ rw (c.get.ensures, c.plane-plane.ensures.0) in
    record { starts = rw (started, c.get-region.ensures) (begins c.loop-k.invariant.1 c.loop-k-test.true); low = end_low c.loop-k.invariant.1 }

pub loop-k-smaller : goal.loop-k-smaller
loop-k-smaller c =
    let started : c.decode-w.result ≡ start_in c.args.s c.args.work.now (c.loop-k.k - 1) = c.decode-w.ensures ∙ rw (c.get.ensures, c.plane-plane.ensures.0) in
    rw (c.get-k-in-loop-k.ensures, c.plane-plane.ensures.0) (less c.loop-k.invariant.1 c.loop-k-test.true (rw started at c.write_contour-end.ensures))

pub loop-k-preserved : goal.loop-k-preserved
loop-k-preserved c =
    let started : c.decode-w.result ≡ start_in c.args.s c.args.work.now (c.loop-k.k - 1) = c.decode-w.ensures ∙ rw (c.get.ensures, c.plane-plane.ensures.0) in
    (omega (arith, c.get-k-in-loop-k.type_inv), rw (c.get-k-in-loop-k.ensures, c.plane-plane.ensures.0) (goes_on c.loop-k.invariant.1 c.loop-k-test.true (rw started at c.write_contour-end.ensures)))

pub returns : goal.returns
returns c =
    is_over_lem c.loop-k.invariant.1 (λ h. let z = c.loop-k-test.false in omega (arith, z)) (rw c.get-region.ensures at c.put_all.ensures)
