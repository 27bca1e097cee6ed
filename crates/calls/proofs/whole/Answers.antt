-- `calls::whole` meets its contract.
use Prim.Native.Nat.{ℕ, ◌*◌, ◌≤◌}
use lib.ListN.{length}
use Rattle.lattice.specs.Planes.{plane}
use mathlib.Core.List.{List}
use mathlib.Core.Path.{◌≡◌, refl, sym, ap, ◌∙◌}
use native.Mathlib.Omega.{arith}
use Rattle.std.proofs.lemmas.Result.{err_from_is_err_and}
use Rattle.rules.specs.Refusals.{number_in}
use Rattle.rules.specs.Calls.{cut_list}
use Rattle.calls.specs.Outcome.{map_of, answer_with}
use Rattle.calls.specs.Steps.{GraphWritten, FacesWritten}
use Rattle.calls.proofs.Refusals.{none_in, some_in}
use Rattle.calls.proofs.Steps.{traced, graph_left, faces_written, faces_left}
use Rattle.calls.proofs.Calls.{map_passed, planes_passed, all_roomy, whole_refused, whole_answered}
use Rattle.calls.proofs.Room.{fullest, most_counted, all_free}
use Rattle.calls.proofs.whole.Goals.{then-is_ok, else-is_ok}
use Rattle.calls.proofs.whole.Goals as goal

pub returns-in_err-check_map : goal.returns-in_err-check_map
returns-in_err-check_map c =
    let a = c.args in
    let p = err_from_is_err_and c.from_residual.result c.from_residual.ensures.1 in
    rw (p.1, p.2) (whole_refused a.s a.labels.now a.work.now a.nodes.now a.segments.now a.points.now a.references.now a.contours.now a.faces.now _ c.in_err-check_map.ensures)

pub most-requires : goal.most-requires
most-requires c =
    let a = c.args in
    let map = map_passed a.s a.labels.now a.work.now (sym c.in_ok-check_map.ensures) in record { wide = map.wide; high = map.high }

pub whole_at_once-requires-clause-room : goal.whole_at_once-requires-clause-room
whole_at_once-requires-clause-room c =
    let a = c.args in
    let room = c.check_all.ensures (fullest a.s) a.nodes.now a.segments.now a.points.now a.references.now a.contours.now a.faces.now (ap (answer_with 0) c.most.ensures ∙ most_counted a.s) refl refl refl refl refl refl in
    let none : number_in c.check_all.result ≡ 0 = grind (arith, none_in) in
    all_free a.s a.labels.now (omega (arith, c.well_formed)) a.nodes.now a.segments.now a.points.now a.references.now a.contours.now a.faces.now (sym room ∙ none)

pub count_graph-c-requires : goal.count_graph-c-requires
count_graph-c-requires c =
    let a = c.args in
    let z = sym c.in_ok-check_map.ensures in
    record { map = map_passed a.s a.labels.now a.work.now z; planes = planes_passed a.s a.labels.now a.work.now z }

pub count_faces-counts-requires : goal.count_faces-counts-requires
count_faces-counts-requires c =
    let a = c.args in
    let z = sym c.in_ok-check_map.ensures in
    let k = c.count_graph-c.ensures in
    record { map = map_passed a.s a.labels.now a.work.now z; planes = omega (arith, planes_passed a.s a.labels.now a.work.now z, k.1.long); graph = k.0 }

pub trace-requires-clause-map : goal.trace-requires-clause-map
trace-requires-clause-map c = let a = c.args in map_passed a.s a.labels.now a.work.now (sym c.in_ok-check_map.ensures)

pub assemble-requires : goal.assemble-requires
assemble-requires c =
    let a = c.args in
    let z = sym c.in_ok-check_map.ensures in
    let map = map_passed a.s a.labels.now a.work.now z in
    let k = c.count_faces-counts.ensures in
    let room = c.check_all-room in
    let roomy = all_roomy a.s a.labels.now a.nodes.now a.segments.now a.points.now a.references.now a.contours.now a.faces.now _ (room.ensures (cut_list (map_of a.s a.labels.now)) a.nodes.now a.segments.now a.points.now a.references.now a.contours.now a.faces.now k.counts refl refl refl refl refl refl) in
    let planes : 8 * plane a.s.width a.s.height ≤ length c.count_faces-counts.new.work = omega (arith, planes_passed a.s a.labels.now a.work.now z, c.count_graph-c.ensures.1.long, k.kept.long) in
    record {
      map = map;
      stands = record { ss = _; standing = (traced map k planes (none_in room.result (sym c.is_ok.ensures.value ∙ c.if-is_ok.true)) roomy.0 c.trace.ensures).1 };
    }

pub clear-requires : goal.clear-requires
clear-requires c =
    let a = c.args in
    let z = sym c.in_ok-check_map.ensures in
    let map = map_passed a.s a.labels.now a.work.now z in
    (map.wide, map.high, omega (arith, planes_passed a.s a.labels.now a.work.now z, c.count_graph-c.ensures.1.long, c.count_faces-counts.ensures.kept.long, c.if-is_ok.auto.work))

pub returns : goal.returns
returns c =
    let a = c.args in
    let z = sym c.in_ok-check_map.ensures in
    let k = c.count_faces-counts.ensures in
    let room = c.check_all-room in
    let number = room.ensures (cut_list (map_of a.s a.labels.now)) a.nodes.now a.segments.now a.points.now a.references.now a.contours.now a.faces.now k.counts refl refl refl refl refl refl in
    let j = c.if-is_ok in
    let written : (work : List ℕ) × GraphWritten a.s a.labels.now (number_in room.result) c.count_faces-counts.new.work a.nodes.now a.segments.now a.points.now work j.nodes j.segments j.points
    × FacesWritten a.s a.labels.now (number_in room.result) work a.references.now a.contours.now a.faces.now j.work j.references j.contours j.faces =
    elim j.branch [
      | then-is_ok w ↦
          let roomy = all_roomy a.s a.labels.now a.nodes.now a.segments.now a.points.now a.references.now a.contours.now a.faces.now _ number in
          let ok = none_in room.result (sym c.is_ok.ensures.value ∙ w.if-is_ok.true) in
          let planes : 8 * plane a.s.width a.s.height ≤ length c.count_faces-counts.new.work = omega (arith, planes_passed a.s a.labels.now a.work.now z, c.count_graph-c.ensures.1.long, k.kept.long) in
          let t = traced (map_passed a.s a.labels.now a.work.now z) k planes ok roomy.0 w.trace.ensures in
          rw (w.work-is, w.nodes-is, w.segments-is, w.points-is, w.references-is, w.contours-is, w.faces-is) (_, t.0, faces_written ok roomy.1 (w.assemble.ensures _ t.1))
      | else-is_ok w ↦
          let bad = some_in room.result (sym c.is_ok.ensures.value ∙ w.if-is_ok.false) in
          rw (w.work-is, w.nodes-is, w.segments-is, w.points-is, w.references-is, w.contours-is, w.faces-is) (_, graph_left bad, faces_left bad)
    ]
    in
    rw c.answer.ensures
    (whole_answered a.s a.labels.now a.work.now a.nodes.now a.segments.now a.points.now a.references.now a.contours.now a.faces.now room.result
    z c.count_graph-c.ensures k number written.1 written.2 c.clear.ensures)
