-- `mosaic::bench::mosaic_assemble` meets its contract.
use mathlib.Core.Path.{ap, ◌∙◌}
use Rattle.accept.specs.Walks.{given}
use Rattle.calls.specs.Outcome.{map_of}
use Rattle.workbench.specs.Bench.{assemble}
use Rattle.mosaic.proofs.bench.mosaic_assemble.Goals as goal

pub returns : goal.returns
returns c =
    let a = c.args in
    let g = given a.nodes.now a.node_count a.segments.now a.segment_count a.points.now in
    rw c.words.ensures (c.assemble.ensures ∙ ap (λ s. assemble (map_of s a.labels.now) g a.work.now a.references.now a.contours.now a.faces.now) c.sized-s.ensures)
