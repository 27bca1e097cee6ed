-- `tray::tray` meets its contract.
use Prim.Native.Nat.{ℕ, ◌+◌, ◌*◌, ◌<◌, ◌≤◌}
use mathlib.Core.Path.{◌≡◌, refl, ap, subst, ◌∙◌}
use native.Mathlib.Omega.{arith}
use lib.ListN.{length}
use lib.Seq.{sets}
use Rattle.calls.specs.Mode.{size_in}
use Rattle.tray.specs.Steps.{stores_with, LabelsPassed}
use Rattle.tray.proofs.Progress.{tiles_count, tile_at, begins, inside, records_fit, filled, continues, too_few, over}
use Rattle.tray.proofs.tray.Goals as goal

pub returns-then-answers-count : goal.returns-then-answers-count
returns-then-answers-count c =
    let a = c.args in
    too_few a.mode a.maps.now a.labels.now a.work.now (stores_with a.nodes.now a.segments.now a.points.now a.references.now a.contours.now a.faces.now) a.answers.now (omega (arith, tiles_count a.mode a.maps.now, c.if-answers-count.true))

pub loop-i-init : goal.loop-i-init
loop-i-init c =
    let a = c.args in
    (begins a.mode a.maps.now a.labels.now a.work.now (stores_with a.nodes.now a.segments.now a.points.now a.references.now a.contours.now a.faces.now) a.answers.now, refl, refl, refl, refl, refl, refl, refl, refl)

pub one-answer-requires : goal.one-answer-requires
one-answer-requires c =
    let g = c.loop-i.invariant.0 in record { labels = g.within; stores = inside _ _ _ _ _ _ g }

pub past_records-p-requires : goal.past_records-p-requires
past_records-p-requires c =
    let a = c.args in
    let g = c.loop-i.invariant.0 in
    let s = c.sized-s.result in
    let is : s ≡ tile_at a.mode a.maps.now (3 * c.loop-i.i) = c.sized-s.ensures ∙ (λ j. size_in a.mode (c.at.ensures j) (c.at-in-loop-i.ensures j) (c.at-in-loop-i-2.ensures j)) in
    let more : 3 * c.loop-i.i + 2 < length a.maps.now = omega (arith, c.loop-i-test.true) in
    let room : 8 * c.loop-i.i + 8 ≤ length a.answers.now = omega (arith, c.loop-i-test.true, c.if-answers-count.false) in
    let full = filled a.mode a.maps.now a.labels.now a.work.now (stores_with a.nodes.now a.segments.now a.points.now a.references.now a.contours.now a.faces.now) a.answers.now g s is more room c.one-answer.result c.one-answer.ensures in
    let good = c.well_formed in
    records_fit c.loop-i.p c.past_labels.result c.one-answer.result full c.past_labels.ensures.others
    (omega (arith, c.one-answer.auto.nodes ∙ c.loop-i.invariant.2, good))
    (omega (arith, c.one-answer.auto.segments ∙ c.loop-i.invariant.3, good))
    (omega (arith, c.one-answer.auto.points ∙ c.loop-i.invariant.4, good))
    (omega (arith, c.one-answer.auto.references ∙ c.loop-i.invariant.5, good))
    (omega (arith, c.one-answer.auto.contours ∙ c.loop-i.invariant.6, good))
    (omega (arith, c.one-answer.auto.faces ∙ c.loop-i.invariant.7, good))

pub loop-i-preserved : goal.loop-i-preserved
loop-i-preserved c =
    let a = c.args in
    let g = c.loop-i.invariant.0 in
    let s = c.sized-s.result in
    let is : s ≡ tile_at a.mode a.maps.now (3 * c.loop-i.i) = c.sized-s.ensures ∙ (λ j. size_in a.mode (c.at.ensures j) (c.at-in-loop-i.ensures j) (c.at-in-loop-i-2.ensures j)) in
    let more : 3 * c.loop-i.i + 2 < length a.maps.now = omega (arith, c.loop-i-test.true) in
    let room : 8 * c.loop-i.i + 8 ≤ length a.answers.now = omega (arith, c.loop-i-test.true, c.if-answers-count.false) in
    let passed = subst (λ (n : ℕ). LabelsPassed c.loop-i.p n (length a.labels.now) c.past_labels.result) c.pixels.ensures c.past_labels.ensures in (
      continues a.mode a.maps.now a.labels.now a.work.now (stores_with a.nodes.now a.segments.now a.points.now a.references.now a.contours.now a.faces.now) a.answers.now g s is more room c.one-answer.result c.one-answer.ensures passed c.past_records-p.ensures (c.put_all.ensures ∙ ap (sets _ (8 * c.loop-i.i)) c.words.ensures),
      c.one-answer.auto.work ∙ c.loop-i.invariant.1,
      c.one-answer.auto.nodes ∙ c.loop-i.invariant.2,
      c.one-answer.auto.segments ∙ c.loop-i.invariant.3,
      c.one-answer.auto.points ∙ c.loop-i.invariant.4,
      c.one-answer.auto.references ∙ c.loop-i.invariant.5,
      c.one-answer.auto.contours ∙ c.loop-i.invariant.6,
      c.one-answer.auto.faces ∙ c.loop-i.invariant.7,
      c.put_all.auto.words ∙ c.loop-i.invariant.8,
    )

pub returns : goal.returns
returns c =
    let a = c.args in
    let few = tiles_count a.mode a.maps.now in
    over a.mode a.maps.now a.labels.now a.work.now (stores_with a.nodes.now a.segments.now a.points.now a.references.now a.contours.now a.faces.now) a.answers.now c.loop-i.invariant.0 (omega arith) (omega (arith, few, c.if-answers-count.false))
