-- `sheet::Mover::step` meets its contract.
use mathlib.Core.Path.{ap, ◌∙◌}
use Rattle.sheet.specs.Moving.{moved_to, tell_there}
use Rattle.sheet.proofs.Mover.step.Goals as goal

pub returns : goal.returns
returns c =
    let a = c.args in
    c.here.ensures ∙ ap (tell_there a.segments.now a.points.now) (c.moved.ensures ∙ ap (moved_to a.self) c.onward-next.ensures)
