-- `scan::thread` meets its contract.
use Prim.Native.Nat.{suc, ◌+◌, ◌-◌}
use mathlib.Core.Path.{◌≡◌, ◌∙◌}
use native.Mathlib.Omega.{arith}
use Rattle.listing.specs.Writing.{start_in}
use Rattle.listing.proofs.Threading.{begin, one_more}
use Rattle.listing.proofs.scan.thread.Goals as goal

pub loop-k-init : goal.loop-k-init
loop-k-init c = begin c.requires

pub loop-k-preserved : goal.loop-k-preserved
loop-k-preserved c =
    let start_read : c.decode-w.result ≡ start_in c.args.s c.loop-k.work (c.loop-k.k - 1) = c.decode-w.ensures ∙ rw (c.get.ensures, c.plane-plane.ensures.0) in
    let l = c.loop-k in
    let pl = c.plane-plane.ensures.0 in
    let m : l.k ≡ suc (l.k - 1) = omega (arith, c.loop-k-test.true) in
    let n : l.k - 1 + 1 ≡ l.k = omega (arith, c.loop-k-test.true) in
    one_more c.requires l.invariant (l.k - 1) m l.auto.k (rw start_read at c.island.ensures) (rw (c.get-first.ensures, pl) at c.put.ensures) (rw (pl, n) at c.put-in-loop-k.ensures)
