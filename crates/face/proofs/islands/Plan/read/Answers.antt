-- `islands::Plan::read` meets its contract.
use Rattle.face.proofs.islands.Plan.read.Goals as goal

pub returns : goal.returns
returns c = c.seen.ensures
