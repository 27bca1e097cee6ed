-- `workbench::assemble` meets its contract.
use mathlib.Core.Path.{refl, sym, ap, ◌∙◌}
use native.Mathlib.Omega.{arith}
use Rattle.std.proofs.lemmas.Result.{err_from_is_err_and}
use Rattle.rules.specs.Refusals.{number_in}
use Rattle.rules.specs.Calls.{cut_list}
use Rattle.store.proofs.Writes.{kept_then, kept_within}
use Rattle.accept.specs.Walks.{given}
use Rattle.calls.specs.Outcome.{map_of}
use Rattle.calls.proofs.Refusals.{none_in, some_in}
use Rattle.calls.proofs.Calls.{map_passed, planes_passed}
use Rattle.workbench.proofs.Benched.{counted_nodes, counted_cracks, stands_accepted, number_is, number_accepts, Benched, bench_left, bench_written, bench_refused, bench_answered}
use Rattle.workbench.proofs.assemble.Goals.{then-is_ok, else-is_ok}
use Rattle.workbench.proofs.assemble.Goals as goal

pub returns-in_err-check_map : goal.returns-in_err-check_map
returns-in_err-check_map c =
    let a = c.args in
    let p = err_from_is_err_and c.from_residual.result c.from_residual.ensures.1 in
    rw (p.1, p.2) (bench_refused a.s a.labels.now (given a.nodes.now a.node_count a.segments.now a.segment_count a.points.now) a.references.now a.contours.now a.faces.now a.work.now _ c.in_err-check_map.ensures)

pub count_graph-c-requires : goal.count_graph-c-requires
count_graph-c-requires c =
    let a = c.args in
    let z = sym c.in_ok-check_map.ensures in
    record { map = map_passed a.s a.labels.now a.work.now z; planes = planes_passed a.s a.labels.now a.work.now z }

pub count_faces-counts-requires : goal.count_faces-counts-requires
count_faces-counts-requires c =
    let a = c.args in
    let z = sym c.in_ok-check_map.ensures in
    let counted = c.count_graph-c.ensures in
    record { map = map_passed a.s a.labels.now a.work.now z; planes = omega (arith, planes_passed a.s a.labels.now a.work.now z, counted.1.long); graph = counted.0 }

pub accept-fits-requires : goal.accept-fits-requires
accept-fits-requires c =
    let a = c.args in
    let z = sym c.in_ok-check_map.ensures in
    let k = c.count_faces-counts.ensures in
    record {
      map = map_passed a.s a.labels.now a.work.now z;
      marks = omega (arith, planes_passed a.s a.labels.now a.work.now z, c.count_graph-c.ensures.1.long, k.kept.long);
      corners = counted_nodes k.graph;
      cracks = counted_cracks k.graph;
    }

pub assemble-requires : goal.assemble-requires
assemble-requires c =
    let a = c.args in
    let z = sym c.in_ok-check_map.ensures in
    let map = map_passed a.s a.labels.now a.work.now z in
    let g = given a.nodes.now a.node_count a.segments.now a.segment_count a.points.now in
    let k = c.count_faces-counts.ensures in
    let number = ap number_in c.and-room.ensures ∙ number_is a.s a.labels.now g a.references.now a.contours.now a.faces.now c.check_given-strange.result c.check_faces-short.result c.check_given-strange.ensures c.accept-fits.ensures.0 (c.check_faces-short.ensures (cut_list (map_of a.s a.labels.now)) a.references.now a.contours.now a.faces.now k.counts refl refl refl) in
    let none = none_in c.and-room.result (sym c.is_ok.ensures.value ∙ c.if-is_ok.true) in
    let planes = planes_passed a.s a.labels.now a.work.now z in
    let standing = stands_accepted a.s a.labels.now g map (number_accepts a.s a.labels.now g a.references.now a.contours.now a.faces.now (sym number ∙ none)) (omega (arith, planes, c.count_graph-c.ensures.1.long, k.kept.long)) k.numbers c.accept-fits.ensures.1 in
    record { map = map; stands = record { ss = _; standing = standing } }

pub clear-requires : goal.clear-requires
clear-requires c =
    let a = c.args in
    let z = sym c.in_ok-check_map.ensures in
    let map = map_passed a.s a.labels.now a.work.now z in
    let planes = planes_passed a.s a.labels.now a.work.now z in
    (map.wide, map.high, omega (arith, planes, c.count_graph-c.ensures.1.long, c.count_faces-counts.ensures.kept.long, c.accept-fits.ensures.1.long, c.if-is_ok.auto.work))

pub returns : goal.returns
returns c =
    let a = c.args in
    let z = sym c.in_ok-check_map.ensures in
    let g = given a.nodes.now a.node_count a.segments.now a.segment_count a.points.now in
    let k = c.count_faces-counts.ensures in
    let number = ap number_in c.and-room.ensures ∙ number_is a.s a.labels.now g a.references.now a.contours.now a.faces.now c.check_given-strange.result c.check_faces-short.result c.check_given-strange.ensures c.accept-fits.ensures.0 (c.check_faces-short.ensures (cut_list (map_of a.s a.labels.now)) a.references.now a.contours.now a.faces.now k.counts refl refl refl) in
    let kept = kept_then c.count_graph-c.ensures.1 (kept_then k.kept (kept_within (omega arith) (omega arith) c.accept-fits.ensures.1)) in
    let room = c.and-room.result in
    let j = c.if-is_ok in
    let benched : Benched a.s a.labels.now g a.references.now a.contours.now a.faces.now (number_in room) c.accept-fits.new.work j.work j.references j.contours j.faces =
    elim j.branch [
      | then-is_ok w ↦
          let none = none_in room (sym c.is_ok.ensures.value ∙ w.if-is_ok.true) in
          let planes = planes_passed a.s a.labels.now a.work.now z in
          let standing = stands_accepted a.s a.labels.now g (map_passed a.s a.labels.now a.work.now z) (number_accepts a.s a.labels.now g a.references.now a.contours.now a.faces.now (sym number ∙ none)) (omega (arith, planes, c.count_graph-c.ensures.1.long, k.kept.long)) k.numbers c.accept-fits.ensures.1 in
          rw (w.work-is, w.references-is, w.contours-is, w.faces-is) (bench_written a.s a.labels.now g a.references.now a.contours.now a.faces.now number none (omega (arith, c.well_formed)) (w.assemble.ensures _ standing))
      | else-is_ok w ↦
          rw (w.work-is, w.references-is, w.contours-is, w.faces-is) (bench_left a.s a.labels.now g a.references.now a.contours.now a.faces.now (some_in room (sym c.is_ok.ensures.value ∙ w.if-is_ok.false)))
    ]
    in
    rw c.answer.ensures (bench_answered a.s a.labels.now g a.references.now a.contours.now a.faces.now a.work.now room z number k.counts kept benched c.clear.ensures)
