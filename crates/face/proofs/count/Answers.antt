-- `count` meets its contract.
use native.Mathlib.Omega.{arith}
use Rattle.face.proofs.Counting.{marks_blank, counted}
use Rattle.face.proofs.count.Goals as goal

pub count-found-requires : goal.count-found-requires
count-found-requires c =
    record { map = c.requires.map; blank = rw (c.fill.ensures, c.plane-plane.ensures.0) (marks_blank c.islands-faces.ensures c.requires.room) }

pub returns : goal.returns
returns c =
    counted c.islands-faces.ensures c.requires.room (omega arith) (rw (c.fill.ensures, c.plane-plane.ensures.0) at c.count-found.ensures)
