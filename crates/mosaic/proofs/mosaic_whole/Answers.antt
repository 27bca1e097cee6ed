-- `mosaic::mosaic_whole` meets its contract.
use mathlib.Core.Path.{ap, ◌∙◌}
use Rattle.rules.specs.Calls.{whole}
use Rattle.calls.specs.Outcome.{map_of}
use Rattle.mosaic.proofs.mosaic_whole.Goals as goal

pub returns : goal.returns
returns c =
    let a = c.args in
    rw c.words.ensures (c.whole.ensures ∙ ap (λ s. whole (map_of s a.labels.now) a.work.now a.nodes.now a.segments.now a.points.now a.references.now a.contours.now a.faces.now) c.sized-s.ensures)
