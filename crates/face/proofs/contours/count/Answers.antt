-- `contours::count` meets its contract.
use native.Mathlib.Numerals.{add-one}
use native.Mathlib.Omega.{arith}
use Rattle.store.proofs.Writes.{kept_none, kept_then}
use Rattle.face.proofs.contours.Scanning.{scan_start, all_found}
use Rattle.face.proofs.contours.count.Goals as goal

pub loop-y-init : goal.loop-y-init
loop-y-init c = record { scan = scan_start _ c.requires.blank; kept = kept_none }

pub loop-y-preserved : goal.loop-y-preserved
loop-y-preserved c =
    let k = c.find_row-g.ensures in
    record { scan = rw add-one k.scan; kept = kept_then c.loop-y.invariant.kept k.kept }

pub returns : goal.returns
returns c =
    let t = c.loop-y.invariant in
    all_found t.scan c.loop-y-test.false (omega arith) t.kept

pub returns-2 : goal.returns-2
returns-2 c =
    let k = c.find_row-g.ensures in
    all_found k.scan (omega arith) (omega arith) (kept_then c.loop-y.invariant.kept k.kept)
