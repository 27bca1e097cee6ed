-- `islands::islands` meets its contract.
use Rattle.face.proofs.islands.Settling.{numbered}
use Rattle.face.proofs.islands.islands.Goals as goal

pub returns : goal.returns
returns c =
    rw c.plane.ensures.0 at (numbered c.link_all.ensures c.settle_all.ensures)
