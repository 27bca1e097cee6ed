-- `measure` meets its contract.
use Prim.Native.Nat.{◌≤◌}
use native.Mathlib.Omega.{arith}
use Rattle.veneer.proofs.Facing.{pages, unsorted, numberable, fillable, summable, faces_measured}
use Rattle.veneer.proofs.measure.Goals as goal

pub list_islands-m-requires : goal.list_islands-m-requires
list_islands-m-requires c =
    let pl = c.plane-plane.ensures.0 in
    let b : c.args.s.paints ≤ 4294967295 = omega (arith, c.well_formed) in
    rw pl (pages c.requires.map b c.args.work.now c.args.sums.now c.requires.planes c.requires.islands c.requires.sums)

pub sort-requires : goal.sort-requires
sort-requires c =
    let pl = c.plane-plane.ensures.0 in
    let b : c.args.s.paints ≤ 4294967295 = omega (arith, c.well_formed) in
    rw pl (unsorted c.requires.map b c.args.work.now c.args.sums.now c.requires.planes c.requires.islands c.requires.sums (rw pl at c.list_islands-m.ensures))

pub number_faces-requires : goal.number_faces-requires
number_faces-requires c =
    let pl = c.plane-plane.ensures.0 in
    let b : c.args.s.paints ≤ 4294967295 = omega (arith, c.well_formed) in
    rw pl (numberable c.requires.map b c.args.work.now c.args.sums.now c.requires.planes c.requires.islands c.requires.sums (rw pl at c.list_islands-m.ensures) (rw pl at c.sort.ensures))

pub fill-requires : goal.fill-requires
fill-requires c =
    let pl = c.plane-plane.ensures.0 in
    let b : c.args.s.paints ≤ 4294967295 = omega (arith, c.well_formed) in
    rw pl (fillable c.requires.map b c.args.work.now c.args.sums.now c.requires.planes c.requires.islands c.requires.sums (rw pl at c.list_islands-m.ensures) (rw pl at c.sort.ensures) (rw pl at c.number_faces.ensures))

pub sum_all-requires : goal.sum_all-requires
sum_all-requires c =
    let pl = c.plane-plane.ensures.0 in
    let b : c.args.s.paints ≤ 4294967295 = omega (arith, c.well_formed) in
    record { map = c.requires.map; measuring = rw pl (summable c.requires.map b c.args.work.now c.args.sums.now c.requires.planes c.requires.islands c.requires.sums (rw pl at c.list_islands-m.ensures) (rw pl at c.sort.ensures) (rw pl at c.number_faces.ensures) (rw pl at c.fill.ensures)) }

pub returns : goal.returns
returns c =
    let pl = c.plane-plane.ensures.0 in
    let b : c.args.s.paints ≤ 4294967295 = omega (arith, c.well_formed) in
    faces_measured c.requires.map b c.args.work.now c.args.sums.now c.requires.planes c.requires.islands c.requires.sums (rw pl at c.list_islands-m.ensures) (rw pl at c.sort.ensures) (rw pl at c.number_faces.ensures) (rw pl at c.fill.ensures) (rw pl at c.sum_all.ensures)
