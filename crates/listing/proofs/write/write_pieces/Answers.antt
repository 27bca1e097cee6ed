-- `write::write_pieces` meets its contract.
use Prim.Native.Nat.{◌+◌, ◌*◌}
use mathlib.Core.Path.{refl, ap}
use native.Mathlib.Omega.{arith}
use lib.ListN.{length, get_or, length-append}
use Rattle.rules.specs.Lists.{flat}
use Rattle.lattice.specs.Planes.{plane}
use Rattle.listing.specs.Writing.{piece_in, pieces_in}
use Rattle.listing.proofs.Pieces.{pieces_more, pieces_low, piece_put}
use Rattle.listing.proofs.write.write_pieces.Goals as goal

pub loop-i-init : goal.loop-i-init
unfolding flat
loop-i-init c = (refl, refl)

pub write_piece-at-requires : goal.write_piece-at-requires
write_piece-at-requires c =
    let a = c.args in
    let i = c.loop-i.i in
    let t = c.loop-i-test.true in
    rw (c.get-p.ensures, c.plane-list.ensures.0) (record {
      strung = c.requires.strung i t;
      low = omega (arith, c.loop-i.invariant.1, c.requires.short, pieces_low a.s a.labels.now a.work.now (i + 1) a.n (omega arith), ap length (pieces_more a.s a.labels.now a.work.now i), length-append (pieces_in a.s a.labels.now a.work.now i) (piece_in a.s a.labels.now a.work.now (get_or a.work.now (6 * plane a.s.width a.s.height + i) 0)));
    })

pub loop-i-preserved : goal.loop-i-preserved
loop-i-preserved c =
    let a = c.args in
    let v = c.loop-i.invariant in
    let r = piece_put a.s a.labels.now a.work.now a.listing.now _ _ _ _ c.loop-i.i v.0 v.1 (rw (c.get-p.ensures, c.plane-list.ensures.0) at c.write_piece-at.ensures) in
    r
