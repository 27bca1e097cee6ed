-- `colour` meets its contract.
use mathlib.Core.Path.{refl}
use Rattle.merge.specs.Stored.{coloured}
use Rattle.merge.proofs.colour.Goals as goal

pub returns : goal.returns
unfolding coloured
returns c = rw (c.tint-3.ensures, c.tint-2.ensures, c.tint.ensures, c.from-area.ensures, c.get.ensures) refl
