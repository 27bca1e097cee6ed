-- `sheet::whole_on_sheet` meets its contract.
use Rattle.std.proofs.Common.{refl, sym, ◌∙◌, arith, Err}
use Rattle.std.proofs.lemmas.Result.{err_from_is_err_and}
use Rattle.calls.specs.Outcome.{map_of}
use Rattle.calls.proofs.Refusals.{positive}
use Rattle.sheet.proofs.Stays.{with_moves}
use Rattle.sheet.proofs.OnSheet.{fit, refused_early, refused_late}
use Rattle.sheet.proofs.whole_on_sheet.Goals as goal

pub returns-in_err-counts-clause-faces_after : goal.returns-in_err-counts-clause-faces_after
returns-in_err-counts-clause-faces_after c =
    let a = c.args in
    let p = err_from_is_err_and c.from_residual.result c.from_residual.ensures.1 in
    let x = c.in_err-counts.field-0.0 in
    rw (p.1, p.2) (refused_early a.sheet (map_of a.s a.labels.now) a.work.now a.nodes.now a.segments.now a.points.now a.references.now a.contours.now a.faces.now (Err x) c.size.new.work c.in_err-counts.ensures (λ z. let h = positive x.why in omega (arith, h, z)))

pub returns-then-refused-clause-faces_after : goal.returns-then-refused-clause-faces_after
returns-then-refused-clause-faces_after c =
    let a = c.args in
    rw (c.answer.ensures, c.and.ensures)
    (refused_late a.sheet (map_of a.s a.labels.now) a.work.now a.nodes.now a.segments.now a.points.now a.references.now a.contours.now a.faces.now c.in_ok-counts.counts c.size.new.work c.in_ok-counts.ensures (sym c.refused.ensures ∙ c.if-refused.true) c.check_all-room.result
    (λ k. c.check_all-room.ensures _ a.nodes.now a.segments.now a.points.now a.references.now a.contours.now a.faces.now k refl refl refl refl refl refl))

pub returns-clause-faces_after : goal.returns-clause-faces_after
returns-clause-faces_after c =
    let a = c.args in
    c.whole.ensures ∙ fit a.sheet (map_of a.s a.labels.now) a.work.now a.nodes.now a.segments.now a.points.now a.references.now a.contours.now a.faces.now (sym c.refused.ensures ∙ c.if-refused.false)

pub returns-clause-on_sheet : goal.returns-clause-on_sheet
returns-clause-on_sheet c =
    let a = c.args in
    let sides = c.well_formed.0.1.1 in
    with_moves a.sheet sides.0.1 sides.1.0.1 (map_of a.s a.labels.now) a.work.now a.nodes.now a.segments.now a.points.now a.references.now a.contours.now a.faces.now _ _ _ _ _ _
    (c.whole.ensures ∙ fit a.sheet (map_of a.s a.labels.now) a.work.now a.nodes.now a.segments.now a.points.now a.references.now a.contours.now a.faces.now (sym c.refused.ensures ∙ c.if-refused.false))
