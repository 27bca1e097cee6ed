-- `calls::graph` meets its contract.
use mathlib.Core.Path.{refl, sym, ap, ◌∙◌}
use native.Mathlib.Omega.{arith}
use Rattle.std.proofs.lemmas.Result.{err_from_is_err_and}
use Rattle.rules.specs.Refusals.{number_in}
use Rattle.rules.specs.Calls.{graph_list}
use Rattle.calls.specs.Outcome.{map_of, answer_with}
use Rattle.calls.specs.Steps.{GraphWritten}
use Rattle.calls.proofs.Refusals.{none_in, some_in}
use Rattle.calls.proofs.Steps.{graph_written, graph_left}
use Rattle.calls.proofs.Calls.{map_passed, planes_passed, graph_roomy, graph_refused, graph_answered}
use Rattle.calls.proofs.Room.{fullest, most_counted, graph_free}
use Rattle.calls.proofs.graph.Goals.{then-is_ok-2, else-is_ok-2}
use Rattle.calls.proofs.graph.Goals as goal

pub returns-in_err-check_map : goal.returns-in_err-check_map
returns-in_err-check_map c =
    let a = c.args in
    let p = err_from_is_err_and c.from_residual.result c.from_residual.ensures.1 in
    rw (p.1, p.2) (graph_refused a.s a.labels.now a.work.now a.nodes.now a.segments.now a.points.now _ c.in_err-check_map.ensures)

pub most-requires : goal.most-requires
most-requires c =
    let a = c.args in
    let map = map_passed a.s a.labels.now a.work.now (sym c.in_ok-check_map.ensures) in record { wide = map.wide; high = map.high }

pub graph_at_once-requires-clause-room : goal.graph_at_once-requires-clause-room
graph_at_once-requires-clause-room c =
    let a = c.args in
    let room = c.check_graph.ensures (fullest a.s) a.nodes.now a.segments.now a.points.now (ap (answer_with 0) c.most.ensures ∙ most_counted a.s) refl refl refl in
    let none = none_in c.check_graph.result (sym c.is_ok.ensures.value ∙ c.if-is_ok.true) in
    graph_free a.s a.labels.now (omega (arith, c.well_formed)) a.nodes.now a.segments.now a.points.now (sym room ∙ none)

pub count_graph-c-requires : goal.count_graph-c-requires
count_graph-c-requires c =
    let a = c.args in
    let z = sym c.in_ok-check_map.ensures in
    record { map = map_passed a.s a.labels.now a.work.now z; planes = planes_passed a.s a.labels.now a.work.now z }

pub trace-requires-clause-map : goal.trace-requires-clause-map
trace-requires-clause-map c = let a = c.args in map_passed a.s a.labels.now a.work.now (sym c.in_ok-check_map.ensures)

pub clear-requires : goal.clear-requires
clear-requires c =
    let a = c.args in
    let z = sym c.in_ok-check_map.ensures in
    let map = map_passed a.s a.labels.now a.work.now z in
    (map.wide, map.high, omega (arith, planes_passed a.s a.labels.now a.work.now z, c.count_graph-c.ensures.1.long, c.if-is_ok-2.auto.work))

pub returns : goal.returns
returns c =
    let a = c.args in
    let k = c.count_graph-c.ensures in
    let room = c.check_graph-room in
    let number = room.ensures (graph_list (map_of a.s a.labels.now)) a.nodes.now a.segments.now a.points.now (ap (answer_with 0) c.from-counts.ensures ∙ k.0.counts) refl refl refl in
    let j = c.if-is_ok-2 in
    let written : GraphWritten a.s a.labels.now (number_in room.result) c.count_graph-c.new.work a.nodes.now a.segments.now a.points.now j.work j.nodes j.segments j.points =
    elim j.branch [
      | then-is_ok-2 w ↦
          let e = w.trace.ensures in
          rw (w.work-is, w.nodes-is, w.segments-is, w.points-is)
          (graph_written (none_in room.result (sym c.is_ok-2.ensures.value ∙ w.if-is_ok-2.true)) (graph_roomy a.s a.labels.now a.nodes.now a.segments.now a.points.now _ (λ z. sym number ∙ z)) e e.kept)
      | else-is_ok-2 w ↦
          rw (w.work-is, w.nodes-is, w.segments-is, w.points-is) (graph_left (some_in room.result (sym c.is_ok-2.ensures.value ∙ w.if-is_ok-2.false)))
    ]
    in
    rw (c.answer.ensures, c.from-counts.ensures)
    (graph_answered a.s a.labels.now a.work.now a.nodes.now a.segments.now a.points.now room.result (sym c.in_ok-check_map.ensures) k number written c.clear.ensures)
