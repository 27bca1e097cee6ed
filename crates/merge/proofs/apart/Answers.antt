-- `apart` meets its contract.
use mathlib.Core.Path.{refl}
use Rattle.merge.specs.Stored.{apart_in}
use Rattle.merge.proofs.apart.Goals as goal

pub returns : goal.returns
unfolding apart_in
returns c = rw (c.gap.ensures.0, c.gap-2.ensures.0, c.gap-3.ensures.0) refl
