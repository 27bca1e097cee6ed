-- `calls::count_faces` meets its contract.
use Rattle.calls.proofs.Steps.{faces_counted}
use Rattle.calls.proofs.count_faces.Goals as goal

pub returns : goal.returns
returns c =
    rw c.whole_counts.ensures (faces_counted c.requires.graph c.count-f.ensures)
