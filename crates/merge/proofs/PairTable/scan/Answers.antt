-- `PairTable::scan` meets its contract.
use Prim.Native.Nat.{◌+◌, ◌*◌}
use mathlib.Core.Path.{◌≡◌, ◌∙◌}
use native.Mathlib.Omega.{arith}
use native.Mathlib.Nat.{mul_comm}
use lib.ListN.{length}
use Rattle.merge.proofs.Scanning.{scan_start, scan_pixel, scan_wide, scan_beside, scan_table, scan_table_2, scan_go}
use Rattle.merge.proofs.PairTable.scan.Goals as goal

pub loop-y-init : goal.loop-y-init
loop-y-init c = let z : 0 * c.args.width ≡ 0 = omega arith in rw z (scan_start _ _ _)

pub loop-x-init : goal.loop-x-init
loop-x-init c = let z : c.loop-y.y * c.args.width + 0 ≡ c.loop-y.y * c.args.width = omega arith in rw z c.loop-y.invariant

pub overflow_mul-p : goal.overflow_mul-p
overflow_mul-p c = omega (arith, scan_pixel _ _ _ _ _ c.requires _ _ c.loop-x-test.true c.loop-y-test.true, c.requires.pixels)

pub overflow_add-p : goal.overflow_add-p
overflow_add-p c = omega (arith, scan_pixel _ _ _ _ _ c.requires _ _ c.loop-x-test.true c.loop-y-test.true, c.requires.pixels)

pub right-count-requires : goal.right-count-requires
right-count-requires c =
    let p = scan_pixel _ _ _ _ _ c.requires _ _ c.loop-x-test.true c.loop-y-test.true in
    record { table = scan_table _ _ _ _ _ c.requires _ _ _ c.loop-x.invariant p; beside = scan_beside _ _ _ _ _ c.requires _ _ c.loop-x-test.true c.loop-y-test.true }

pub below-count-requires : goal.below-count-requires
below-count-requires c =
    let p = scan_pixel _ _ _ _ _ c.requires _ _ c.loop-x-test.true c.loop-y-test.true in
    record {
      table = scan_table_2 _ _ _ _ _ c.requires _ _ _ c.loop-x.invariant p _ _ c.right-count.ensures;
      pixel = (p, omega (arith, p, scan_wide _ _ _ _ _ c.requires _ c.loop-y-test.true, c.requires.pixels));
    }

pub loop-x-preserved : goal.loop-x-preserved
loop-x-preserved c =
    let p = scan_pixel _ _ _ _ _ c.requires _ _ c.loop-x-test.true c.loop-y-test.true in
    let on : c.loop-y.y * c.args.width + (c.loop-x.x + 1) ≡ c.loop-y.y * c.args.width + c.loop-x.x + 1 = omega arith in
    rw on (scan_go _ _ _ _ _ c.requires _ _ _ c.loop-x.invariant p _ _ c.right-count.ensures _ _ c.below-count.ensures)

pub loop-y-preserved : goal.loop-y-preserved
loop-y-preserved c =
    let row : (c.loop-y.y + 1) * c.args.width ≡ c.loop-y.y * c.args.width + c.loop-x.x = omega arith in
    rw row c.loop-x.invariant

pub returns : goal.returns
returns c =
    let last : c.loop-y.y ≡ c.args.height = omega arith in
    let all : length c.args.labels.now ≡ c.loop-y.y * c.args.width = rw last (c.requires.size ∙ mul_comm c.args.width c.args.height) in
    rw all c.loop-y.invariant
