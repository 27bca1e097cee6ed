-- `marks::mark_contour` meets its contract.
use native.Mathlib.Omega.{arith}
use Rattle.lattice.proofs.Ways.{edge_corner}
use Rattle.face.proofs.contours.Turning.{same_walker, other_walker}
use Rattle.face.proofs.contours.Rounds.{turned_by, edge, may_move, less}
use Rattle.listing.proofs.Marking.{nothing, same_room, goes_on, is_over_lem}
use Rattle.listing.proofs.marks.mark_contour.Goals as goal

pub loop-s-init : goal.loop-s-init
loop-s-init c = nothing c.requires.starts

pub mark-requires : goal.mark-requires
mark-requires c =
    let o = c.loop-s.invariant in
    let m = o.round.starts.map in
    record { sides = record { wide = m.wide; high = m.high }; edge = edge o.round; room = omega (arith, same_room o, c.requires.room) }

pub moved-m-requires : goal.moved-m-requires
moved-m-requires c = may_move c.loop-s.invariant.round

pub look-a-requires : goal.look-a-requires
look-a-requires c =
    let o = c.loop-s.invariant.round in
    record { map = o.starts.map; corner = rw c.moved-m.ensures (edge_corner _ _ (edge o)) }

pub turn-c-requires : goal.turn-c-requires
turn-c-requires c = may_move c.loop-s.invariant.round

pub returns-then-eq : goal.returns-then-eq
returns-then-eq c =
    is_over_lem c.loop-s.invariant (turned_by c.moved-m.ensures c.look-a.ensures c.turn-c.ensures) c.mark.ensures (same_walker _ _ c.if-eq.ensures)

pub loop-s-smaller : goal.loop-s-smaller
loop-s-smaller c =
    less c.loop-s.invariant.round (turned_by c.moved-m.ensures c.look-a.ensures c.turn-c.ensures) (other_walker _ _ c.if-eq.ensures)

pub loop-s-preserved : goal.loop-s-preserved
loop-s-preserved c =
    goes_on c.loop-s.invariant (turned_by c.moved-m.ensures c.look-a.ensures c.turn-c.ensures) c.mark.ensures (other_walker _ _ c.if-eq.ensures)
