-- `calls::graph_at_once` meets its contract.
use native.Mathlib.Omega.{arith}
use Rattle.calls.proofs.Calls.{map_passed, planes_passed}
use Rattle.calls.proofs.AtOnce.{graph_at_once}
use Rattle.calls.proofs.graph_at_once.Goals as goal

pub extract-c-requires : goal.extract-c-requires
extract-c-requires c =
    let a = c.args in
    let z = c.requires.map in
    record { map = map_passed a.s a.labels.now a.work.now z; planes = omega (arith, planes_passed a.s a.labels.now a.work.now z) }

pub clear-requires : goal.clear-requires
clear-requires c =
    let a = c.args in
    let z = c.requires.map in
    let map = map_passed a.s a.labels.now a.work.now z in
    (map.wide, map.high, omega (arith, planes_passed a.s a.labels.now a.work.now z, c.extract-c.ensures.kept.long))

pub returns : goal.returns
returns c =
    rw c.from.ensures (graph_at_once c.requires.map c.extract-c.ensures c.requires.room c.clear.ensures)
