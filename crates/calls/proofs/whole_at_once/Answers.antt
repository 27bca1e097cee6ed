-- `calls::whole_at_once` meets its contract.
use native.Mathlib.Omega.{arith}
use Rattle.calls.proofs.Calls.{map_passed, planes_passed}
use Rattle.calls.proofs.AtOnce.{standing_at_once, long_at_once, done_low, whole_at_once}
use Rattle.calls.proofs.whole_at_once.Goals as goal

pub extract-c-requires : goal.extract-c-requires
extract-c-requires c =
    let a = c.args in
    let z = c.requires.map in
    record { map = map_passed a.s a.labels.now a.work.now z; planes = omega (arith, planes_passed a.s a.labels.now a.work.now z) }

pub islands-painted-requires : goal.islands-painted-requires
islands-painted-requires c =
    let a = c.args in
    let z = c.requires.map in
    record { map = map_passed a.s a.labels.now a.work.now z; room = omega (arith, planes_passed a.s a.labels.now a.work.now z, c.extract-c.ensures.kept.long) }

pub assemble-done-requires : goal.assemble-done-requires
assemble-done-requires c =
    let a = c.args in
    let z = c.requires.map in
    record { map = map_passed a.s a.labels.now a.work.now z; stands = record { ss = _; standing = standing_at_once z c.extract-c.ensures _ _ _ c.requires.room c.islands-painted.ensures } }

pub clear-requires : goal.clear-requires
clear-requires c =
    let a = c.args in
    let z = c.requires.map in
    let map = map_passed a.s a.labels.now a.work.now z in
    (map.wide, map.high, omega (arith, planes_passed a.s a.labels.now a.work.now z, long_at_once z c.extract-c.ensures _ _ _ c.requires.room c.islands-painted.ensures c.assemble-done.ensures))

pub overflow_cast-f : goal.overflow_cast-f
overflow_cast-f c =
    omega (arith, (done_low c.requires.map c.extract-c.ensures _ _ _ c.requires.room c.islands-painted.ensures c.assemble-done.ensures (omega (arith, c.well_formed))).0)

pub overflow_cast-f-2 : goal.overflow_cast-f-2
overflow_cast-f-2 c =
    omega (arith, (done_low c.requires.map c.extract-c.ensures _ _ _ c.requires.room c.islands-painted.ensures c.assemble-done.ensures (omega (arith, c.well_formed))).1)

pub returns : goal.returns
returns c =
    rw c.whole_counts.ensures (whole_at_once c.requires.map c.extract-c.ensures _ _ _ c.requires.room c.islands-painted.ensures c.assemble-done.ensures c.clear.ensures)
