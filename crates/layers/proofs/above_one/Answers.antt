-- `layers::above_one` meets its contract.
use Rattle.layers.proofs.Masks.{above_fold}
use Rattle.layers.proofs.above_one.Goals as goal

pub returns : goal.returns
returns c = rw c.highest.ensures (above_fold 0 c.args.masks.now)
