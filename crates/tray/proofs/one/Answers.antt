-- `tray::one` meets its contract.
use mathlib.Core.Path.{ap, ◌∙◌}
use native.Mathlib.Omega.{arith}
use lib.ListN.{length}
use Rattle.rules.specs.Calls.{refused}
use Rattle.std.specs.Prelude.{Err}
use Rattle.calls.specs.declared.Refused.{Refused}
use Rattle.calls.specs.Outcome.{answer_of}
use Rattle.tray.specs.Tray.{pixels}
use Rattle.tray.specs.Steps.{stores_with}
use Rattle.tray.proofs.Passing.{starts_at, over_already, over_now, not_over}
use Rattle.tray.proofs.Single.{tiled_past, tiled_call}
use Rattle.tray.proofs.one.Goals as goal

pub returns-in_default : goal.returns-in_default
returns-in_default c =
    let a = c.args in
    λ k s. tiled_past a.s a.labels.now a.work.now (stores_with a.nodes.now a.segments.now a.points.now a.references.now a.contours.now a.faces.now) a.p k (over_already (length a.labels.now) (pixels a.s) a.p c.in_default.is k s) _ (ap (λ (r : Refused). answer_of (Err r)) c.from.ensures ∙ ap refused c.past_store.ensures)

pub returns-then-labels-start : goal.returns-then-labels-start
returns-then-labels-start c =
    let a = c.args in
    let at = c.in-Some in
    λ k s. tiled_past a.s a.labels.now a.work.now (stores_with a.nodes.now a.segments.now a.points.now a.references.now a.contours.now a.faces.now) a.p k
    (omega (arith, c.pixels-size.ensures, over_now (length a.labels.now) c.pixels-size.result a.p at.start (c.requires.labels at.start at.is) at.is k s c.if-labels-start.true)) _ (ap (λ (r : Refused). answer_of (Err r)) c.from-then-labels-start.ensures ∙ ap refused c.past_store-then-labels-start.ensures)

pub returns : goal.returns
returns c =
    let a = c.args in
    let at = c.in-Some in
    let after = c.whole.new in
    λ k s. tiled_call a.s a.labels.now a.work.now (stores_with a.nodes.now a.segments.now a.points.now a.references.now a.contours.now a.faces.now) a.p k at.start
    (starts_at (length a.labels.now) c.pixels-size.result a.p at.start (c.requires.labels at.start at.is) at.is k s) c.pixels-size.result c.pixels-size.ensures
    (not_over (length a.labels.now) c.pixels-size.result a.p at.start (c.requires.labels at.start at.is) at.is k s c.if-labels-start.false)
    after.work (stores_with after.nodes after.segments after.points after.references after.contours after.faces) _ c.whole.ensures
