-- `mosaic::mosaic_graph` meets its contract.
use mathlib.Core.Path.{ap, ◌∙◌}
use Rattle.rules.specs.Calls.{graph}
use Rattle.calls.specs.Outcome.{map_of}
use Rattle.mosaic.proofs.mosaic_graph.Goals as goal

pub returns : goal.returns
returns c =
    let a = c.args in
    rw c.words.ensures (c.graph.ensures ∙ ap (λ s. graph (map_of s a.labels.now) a.work.now a.nodes.now a.segments.now a.points.now) c.sized-s.ensures)
