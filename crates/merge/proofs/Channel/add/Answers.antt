-- `Channel::add` meets its contract.
use mathlib.Core.Path.{refl}
use Rattle.merge.specs.Stored.{channel}
use Rattle.merge.proofs.Channel.add.Goals as goal

pub returns : goal.returns
unfolding channel
returns c = rw (c.put.ensures, c.sum.ensures, c.sum-2.ensures) refl
