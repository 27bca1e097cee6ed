-- `Channel::gap` meets its contract.
use Rattle.merge.proofs.Channel.gap.Goals as goal

pub returns : goal.returns
returns c = (rw (← c.get.ensures, ← c.get-2.ensures) c.gap.ensures.0, c.gap.ensures.1)
