-- `mosaic::measuring::mosaic_veneer` meets its contract.
use mathlib.Core.Path.{ap, ◌∙◌}
use Rattle.calls.specs.Outcome.{map_of}
use Rattle.veneer.specs.Sums.{veneer}
use Rattle.mosaic.proofs.measuring.mosaic_veneer.Goals as goal

pub returns : goal.returns
returns c =
    let a = c.args in
    rw c.words.ensures (c.veneer.ensures ∙ ap (λ s. veneer (map_of s a.labels.now) a.work.now a.sums.now) c.sized-s.ensures)
