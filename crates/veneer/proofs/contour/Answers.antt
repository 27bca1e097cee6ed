-- `contour` meets its contract.
use Prim.Native.Nat.{◌+◌}
use mathlib.Core.Path.{ap}
use native.Mathlib.Omega.{arith}
use Rattle.lattice.specs.Around.{node_in}
use Rattle.lattice.proofs.Ways.{edge_corner}
use Rattle.face.proofs.Flags.{byte_one, one_small}
use Rattle.face.proofs.contours.Turning.{same_walker, other_walker}
use Rattle.face.proofs.contours.Rounds.{turned_by, edge, may_move, less}
use Rattle.face.proofs.contours.Walking.{stepped_by, few_nodes, same_room}
use Rattle.veneer.proofs.Walking.{nothing, marked, small_sum, read_back, goes_on, ends}
use Rattle.veneer.proofs.contour.Goals as goal

pub loop-s-init : goal.loop-s-init
loop-s-init c = nothing c.requires.starts

pub mark_east-requires : goal.mark_east-requires
mark_east-requires c =
    let o = c.loop-s.invariant in
    let m = o.course.starts.map in
    record { sides = record { wide = m.wide; high = m.high }; edge = edge o.course; room = omega (arith, same_room (marked o), c.requires.room) }

pub risen-t-requires : goal.risen-t-requires
risen-t-requires c = let o = c.loop-s.invariant in record { small = small_sum o; low = (may_move o.course).down }

pub moved-m-requires : goal.moved-m-requires
moved-m-requires c = may_move c.loop-s.invariant.course

pub look-a-requires : goal.look-a-requires
look-a-requires c = let o = c.loop-s.invariant.course in record { map = o.starts.map; corner = rw c.moved-m.ensures (edge_corner _ _ (edge o)) }

pub overflow_add-n : goal.overflow_add-n
overflow_add-n c = omega (arith, few_nodes (marked c.loop-s.invariant), byte_one _ _ _ c.from-n.ensures c.node.ensures, one_small (node_in c.look-a.result))

pub turn-c-requires : goal.turn-c-requires
turn-c-requires c = may_move c.loop-s.invariant.course

pub returns-then-eq : goal.returns-then-eq
returns-then-eq c =
    let o = c.loop-s.invariant in
    let t = c.risen-t in
    ends o (stepped_by c.moved-m.ensures c.look-a.ensures c.turn-c.ensures c.mark_east.ensures (ap (λ n. c.loop-s.n + n) (byte_one _ _ _ c.from-n.ensures c.node.ensures))) (read_back o t.result t.ensures) (same_walker _ _ c.if-eq.ensures)

pub loop-s-smaller : goal.loop-s-smaller
loop-s-smaller c =
    less c.loop-s.invariant.course (turned_by c.moved-m.ensures c.look-a.ensures c.turn-c.ensures) (other_walker _ _ c.if-eq.ensures)

pub loop-s-preserved : goal.loop-s-preserved
loop-s-preserved c =
    let o = c.loop-s.invariant in
    let t = c.risen-t in
    goes_on o (stepped_by c.moved-m.ensures c.look-a.ensures c.turn-c.ensures c.mark_east.ensures (ap (λ n. c.loop-s.n + n) (byte_one _ _ _ c.from-n.ensures c.node.ensures))) (read_back o t.result t.ensures) (other_walker _ _ c.if-eq.ensures)
