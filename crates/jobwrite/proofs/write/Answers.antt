-- `jobwrite::write` meets its contract.
use mathlib.Core.Path.{refl, ap, ◌∙◌}
use Rattle.std.proofs.lemmas.Result.{err_from_is_err_and}
use Rattle.rules.specs.Refusals.{number_in}
use Rattle.rules.specs.Calls.{cut_list}
use Rattle.calls.specs.Outcome.{map_with}
use Rattle.jobs.specs.Writes.{size_of}
use Rattle.jobwrite.proofs.Answering.{counts, room_late, early_answered, late_answered, not_refused, fine_answered}
use Rattle.jobwrite.proofs.write.Goals as goal

pub returns-in_err-counted : goal.returns-in_err-counted
returns-in_err-counted c =
    let a = c.args in
    let p = err_from_is_err_and c.from_residual.result c.from_residual.ensures.1 in
    rw (p.1, p.2) (early_answered a.width a.height a.paints a.labels.now a.work.now a.nodes.now a.segments.now a.points.now a.references.now a.contours.now a.faces.now a.file.now _ c.in_err-counted.ensures)

pub returns-in_err-answer : goal.returns-in_err-answer
returns-in_err-answer c =
    let a = c.args in
    let counted = c.in_ok-counted in
    let counts = counts a.width a.height a.paints a.labels.now a.work.now a.nodes.now a.segments.now a.points.now a.references.now a.contours.now a.faces.now a.file.now counted.counted counted.ensures in
    let held = c.check_all-stores.ensures (cut_list (map_with a.width a.height a.paints a.paints a.labels.now)) a.nodes.now a.segments.now a.points.now a.references.now a.contours.now a.faces.now counts refl refl refl refl refl refl in
    let number = ap number_in c.and.ensures ∙ room_late a.width a.height a.paints a.labels.now a.work.now a.nodes.now a.segments.now a.points.now a.references.now a.contours.now a.faces.now a.file.now counted.counted counted.ensures c.check_all-stores.result c.check_file-store.result held (c.file_size.ensures ∙ ap size_of c.job-j.ensures) c.check_file-store.ensures in
    let p = err_from_is_err_and c.from_residual-in_err-answer.result c.from_residual-in_err-answer.ensures.1 in
    rw (p.1, p.2) (late_answered a.width a.height a.paints a.labels.now a.work.now a.nodes.now a.segments.now a.points.now a.references.now a.contours.now a.faces.now a.file.now counted.counted counted.ensures c.and.result number _ c.in_err-answer.ensures)

pub returns-in_err-counts : goal.returns-in_err-counts
returns-in_err-counts c =
    let a = c.args in
    let counted = c.in_ok-counted in
    let counts = counts a.width a.height a.paints a.labels.now a.work.now a.nodes.now a.segments.now a.points.now a.references.now a.contours.now a.faces.now a.file.now counted.counted counted.ensures in
    let held = c.check_all-stores.ensures (cut_list (map_with a.width a.height a.paints a.paints a.labels.now)) a.nodes.now a.segments.now a.points.now a.references.now a.contours.now a.faces.now counts refl refl refl refl refl refl in
    let number = ap number_in c.and.ensures ∙ room_late a.width a.height a.paints a.labels.now a.work.now a.nodes.now a.segments.now a.points.now a.references.now a.contours.now a.faces.now a.file.now counted.counted counted.ensures c.check_all-stores.result c.check_file-store.result held (c.file_size.ensures ∙ ap size_of c.job-j.ensures) c.check_file-store.ensures in
    absurd (not_refused a.width a.height a.paints a.labels.now a.work.now a.nodes.now a.segments.now a.points.now a.references.now a.contours.now a.faces.now a.file.now counted.counted counted.ensures c.and.result number c.in_ok-answer.ensures _ c.in_err-counts.ensures refl)

pub returns : goal.returns
returns c =
    let a = c.args in
    let counted = c.in_ok-counted in
    let counts = counts a.width a.height a.paints a.labels.now a.work.now a.nodes.now a.segments.now a.points.now a.references.now a.contours.now a.faces.now a.file.now counted.counted counted.ensures in
    let held = c.check_all-stores.ensures (cut_list (map_with a.width a.height a.paints a.paints a.labels.now)) a.nodes.now a.segments.now a.points.now a.references.now a.contours.now a.faces.now counts refl refl refl refl refl refl in
    let number = ap number_in c.and.ensures ∙ room_late a.width a.height a.paints a.labels.now a.work.now a.nodes.now a.segments.now a.points.now a.references.now a.contours.now a.faces.now a.file.now counted.counted counted.ensures c.check_all-stores.result c.check_file-store.result held (c.file_size.ensures ∙ ap size_of c.job-j.ensures) c.check_file-store.ensures in
    fine_answered a.width a.height a.paints a.labels.now a.work.now a.nodes.now a.segments.now a.points.now a.references.now a.contours.now a.faces.now a.file.now counted.counted counted.ensures c.and.result number c.in_ok-answer.ensures _ c.in_ok-counts.ensures refl _ _ _ c.job-j.ensures c.put_file-end.ensures
