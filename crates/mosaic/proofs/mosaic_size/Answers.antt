-- `mosaic::mosaic_size` meets its contract.
use mathlib.Core.Path.{ap, ◌∙◌}
use Rattle.rules.specs.Calls.{size}
use Rattle.calls.specs.Outcome.{map_of}
use Rattle.mosaic.proofs.mosaic_size.Goals as goal

pub returns : goal.returns
returns c =
    let a = c.args in
    rw c.words.ensures (c.size.ensures ∙ ap (λ s. size (map_of s a.labels.now) a.work.now) c.sized-s.ensures)
