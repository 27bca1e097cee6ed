-- `graph::classify_row` meets its contract.
use Prim.Native.Nat.{suc}
use native.Mathlib.Omega.{arith}
use Rattle.graph.specs.Nodes.{listing, Listed}
use Rattle.graph.proofs.Loops.{begin, due, goes, done, corners_of_row, row_at, row_under, row_over}
use Rattle.graph.proofs.Listing.{node_room, bend_room}
use Rattle.graph.proofs.classify_row.Goals as goal

pub loop-x-init : goal.loop-x-init
loop-x-init c = let a = c.args in (c.look-a.ensures, begin (corners_of_row a.s a.y) (Listed a.s a.labels.now) (listing a.work.now a.f))

pub classify_corner-k-requires-clause-nodes : goal.classify_corner-k-requires-clause-nodes
classify_corner-k-requires-clause-nodes c =
    let a = c.args in
    let l = c.loop-x in
    let x = c.loop-x-test.true in
    node_room l.invariant.0
    (due (corners_of_row a.s a.y) (Listed a.s a.labels.now) (0, 0) (l.x, a.y) l.x (row_under a.s.width l.x a.y x) (row_at (suc a.s.width) l.x a.y (omega (arith, x))) _ _ l.invariant.1 c.requires.due)

pub classify_corner-k-requires-clause-bends : goal.classify_corner-k-requires-clause-bends
classify_corner-k-requires-clause-bends c =
    let a = c.args in
    let l = c.loop-x in
    let x = c.loop-x-test.true in
    bend_room l.invariant.0
    (due (corners_of_row a.s a.y) (Listed a.s a.labels.now) (0, 0) (l.x, a.y) l.x (row_under a.s.width l.x a.y x) (row_at (suc a.s.width) l.x a.y (omega (arith, x))) _ _ l.invariant.1 c.requires.due)

pub loop-x-preserved : goal.loop-x-preserved
loop-x-preserved c =
    let a = c.args in
    let l = c.loop-x in
    let x = c.loop-x-test.true in (
      c.look_east-a.ensures,
      goes (corners_of_row a.s a.y) (Listed a.s a.labels.now) (0, 0) (l.x, a.y) l.x (row_under a.s.width l.x a.y x)
          (row_at (suc a.s.width) l.x a.y (omega arith)) _ _ _ l.invariant.1 (λ o rest q. c.classify_corner-k.ensures a.labels.now o rest l.invariant.0 q),
    )

pub returns : goal.returns
returns c =
    let a = c.args in
    let l = c.loop-x in
    done (corners_of_row a.s a.y) (Listed a.s a.labels.now) _ _ l.x (row_over a.s.width l.x a.y c.loop-x-test.false) l.invariant.1
