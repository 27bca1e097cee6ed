-- `contours::find_row` meets its contract.
use native.Mathlib.Numerals.{add-one}
use native.Mathlib.Omega.{arith}
use Rattle.store.proofs.Writes.{kept_none, kept_then}
use Rattle.face.proofs.contours.Scanning.{row_over}
use Rattle.face.proofs.contours.find_row.Goals as goal

pub loop-x-init : goal.loop-x-init
loop-x-init c = record { scan = c.requires.scan; kept = kept_none }

pub loop-x-preserved : goal.loop-x-preserved
loop-x-preserved c =
    let k = c.find-g.ensures in
    record { scan = rw add-one k.scan; kept = kept_then c.loop-x.invariant.kept k.kept }

pub returns : goal.returns
returns c =
    let t = c.loop-x.invariant in
    record { scan = row_over t.scan (omega arith); kept = t.kept }
