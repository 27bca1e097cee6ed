-- `prepare::choose` meets its contract.
use Prim.Native.Nat.{◌≤◌}
use native.Mathlib.Omega.{arith}
use Rattle.listing.proofs.Choosing.{unsorted, unmarked, keepable, chosen}
use Rattle.listing.proofs.prepare.choose.Goals as goal

pub sort-requires : goal.sort-requires
sort-requires c =
    let pl = c.plane-plane.ensures.0 in
    let b : c.args.s.paints ≤ 4294967295 = omega (arith, c.well_formed) in
    rw pl (unsorted c.requires.map b c.islands.ensures c.requires.room (rw pl at c.list_islands-all.ensures))

pub mark_names-requires : goal.mark_names-requires
mark_names-requires c =
    let pl = c.plane-plane.ensures.0 in
    let b : c.args.s.paints ≤ 4294967295 = omega (arith, c.well_formed) in
    rw pl (unmarked c.requires.map b c.islands.ensures c.requires.room (rw pl at c.list_islands-all.ensures) (rw pl at c.sort.ensures) (rw pl at c.fill.ensures))

pub keep_named-requires : goal.keep_named-requires
keep_named-requires c =
    let pl = c.plane-plane.ensures.0 in
    let b : c.args.s.paints ≤ 4294967295 = omega (arith, c.well_formed) in
    rw pl (keepable c.requires.map b c.islands.ensures c.requires.room (rw pl at c.list_islands-all.ensures) (rw pl at c.sort.ensures) (rw pl at c.fill.ensures) (rw pl at c.mark_names.ensures))

pub returns : goal.returns
returns c =
    let pl = c.plane-plane.ensures.0 in
    let b : c.args.s.paints ≤ 4294967295 = omega (arith, c.well_formed) in
    chosen c.requires.map b c.islands.ensures c.requires.room (rw pl at c.list_islands-all.ensures) (rw pl at c.sort.ensures) (rw pl at c.fill.ensures) (rw pl at c.mark_names.ensures) (rw pl at c.keep_named.ensures)
