-- `graph::classify` meets its contract.
use Prim.Native.Nat.{suc}
use mathlib.Core.List.{[]}
use native.Mathlib.Omega.{arith}
use Rattle.graph.specs.Nodes.{Listed}
use Rattle.graph.proofs.Loops.{begin, due, goes, done, rows_of_corners, number_at, rows_under, rows_over}
use Rattle.graph.proofs.Listing.{none_listed, all_listed}
use Rattle.graph.proofs.classify.Goals as goal

pub loop-y-init : goal.loop-y-init
loop-y-init c = let a = c.args in begin (rows_of_corners a.s) (Listed a.s a.labels.now) _

pub classify_row-k-requires-clause-due : goal.classify_row-k-requires-clause-due
classify_row-k-requires-clause-due c =
    let a = c.args in
    let l = c.loop-y in
    due (rows_of_corners a.s) (Listed a.s a.labels.now) 0 l.y l.y (rows_under a.s.height l.y c.loop-y-test.true) (number_at (suc a.s.height) l.y (omega (arith, c.loop-y-test.true))) _ _ l.invariant
    (record { o = a.work.now; rest = []; now = none_listed a.s a.labels.now a.work.now c.requires.planes })

pub loop-y-preserved : goal.loop-y-preserved
loop-y-preserved c =
    let a = c.args in
    let l = c.loop-y in
    let y = c.loop-y-test.true in
    goes (rows_of_corners a.s) (Listed a.s a.labels.now) 0 l.y l.y (rows_under a.s.height l.y y) (number_at (suc a.s.height) l.y (omega arith)) _ _ _ l.invariant c.classify_row-k.ensures

pub returns : goal.returns
returns c =
    let a = c.args in
    let l = c.loop-y in
    let all = done (rows_of_corners a.s) (Listed a.s a.labels.now) _ _ l.y (rows_over a.s.height l.y c.loop-y-test.false) l.invariant in
    all_listed a.s a.labels.now a.work.now _ _ (all a.work.now [] (none_listed a.s a.labels.now a.work.now c.requires.planes))
