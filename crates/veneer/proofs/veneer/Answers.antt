-- `veneer` meets its contract.
use mathlib.Core.Path.{sym}
use native.Mathlib.Omega.{arith}
use Rattle.std.proofs.lemmas.Result.{err_from_is_err_and}
use Rattle.calls.proofs.Calls.{map_passed, planes_passed}
use Rattle.veneer.proofs.Answering.{refused_call, answered_call}
use Rattle.veneer.proofs.veneer.Goals as goal

pub returns-in_err-check_map : goal.returns-in_err-check_map
returns-in_err-check_map c =
    let a = c.args in
    let p = err_from_is_err_and c.from_residual.result c.from_residual.ensures.1 in
    rw (p.1, p.2) (refused_call a.s a.labels.now a.work.now a.sums.now _ c.in_err-check_map.ensures)

pub count_graph-c-requires : goal.count_graph-c-requires
count_graph-c-requires c =
    let a = c.args in
    let z = sym c.in_ok-check_map.ensures in
    record { map = map_passed a.s a.labels.now a.work.now z; planes = planes_passed a.s a.labels.now a.work.now z }

pub measured-answer-requires : goal.measured-answer-requires
measured-answer-requires c =
    let a = c.args in
    let z = sym c.in_ok-check_map.ensures in
    let counted = c.count_graph-c.ensures in
    record { map = map_passed a.s a.labels.now a.work.now z; planes = omega (arith, planes_passed a.s a.labels.now a.work.now z, counted.1.long); graph = counted.0 }

pub clear-requires : goal.clear-requires
clear-requires c =
    let a = c.args in
    let z = sym c.in_ok-check_map.ensures in
    let map = map_passed a.s a.labels.now a.work.now z in
    (map.wide, map.high, omega (arith, planes_passed a.s a.labels.now a.work.now z, c.count_graph-c.ensures.1.long, c.measured-answer.ensures.kept.long))

pub returns : goal.returns
returns c =
    let a = c.args in
    answered_call a.s a.labels.now a.work.now a.sums.now _ _ _ _ _ _ (sym c.in_ok-check_map.ensures) c.count_graph-c.ensures c.measured-answer.ensures c.clear.ensures
