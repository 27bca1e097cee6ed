-- `assemble::assemble` meets its contract.
use Rattle.assemble.proofs.Assembling.{trail_in_lem, ready, loose, unsorted, used₅, ordered}
use Prim.Native.Nat.{◌≤◌}
use native.Mathlib.Omega.{arith}
use Rattle.assemble.proofs.assemble.Goals as goal

pub fill-requires : goal.fill-requires
fill-requires c =
    let b : c.args.s.paints ≤ 4294967295 = omega (arith, c.well_formed) in
    let g = c.requires.stands.standing in
    omega (arith, trail_in_lem c.requires.map b g c.plane-plane.ensures.0, g.planes)

pub find_contours-count-requires : goal.find_contours-count-requires
find_contours-count-requires c =
    let b : c.args.s.paints ≤ 4294967295 = omega (arith, c.well_formed) in
    record { ss = c.requires.stands.ss; ready = ready c.requires.map b c.requires.stands.standing c.plane-plane.ensures.0 c.fill.ensures }

pub thread-requires : goal.thread-requires
thread-requires c =
    let b : c.args.s.paints ≤ 4294967295 = omega (arith, c.well_formed) in
    let M = c.requires.map in
    let g = c.requires.stands.standing in
    let z = c.plane-plane.ensures.0 in
    let e = c.fill.ensures in
    record { cs = _; span = _; loose = loose M b g z e (c.find_contours-count.ensures c.requires.stands.ss (ready M b g z e)) c.list_islands-m.ensures }

pub sort-requires : goal.sort-requires
sort-requires c =
    let b : c.args.s.paints ≤ 4294967295 = omega (arith, c.well_formed) in
    let M = c.requires.map in
    let g = c.requires.stands.standing in
    let z = c.plane-plane.ensures.0 in
    let e = c.fill.ensures in
    let f = c.find_contours-count.ensures c.requires.stands.ss (ready M b g z e) in
    let l = c.list_islands-m.ensures in
    unsorted M b g z e f l (c.thread.ensures _ _ (loose M b g z e f l))

pub write_faces-requires : goal.write_faces-requires
write_faces-requires c =
    let b : c.args.s.paints ≤ 4294967295 = omega (arith, c.well_formed) in
    let M = c.requires.map in
    let g = c.requires.stands.standing in
    let z = c.plane-plane.ensures.0 in
    let e = c.fill.ensures in
    let f = c.find_contours-count.ensures c.requires.stands.ss (ready M b g z e) in
    let l = c.list_islands-m.ensures in
    record { fs = _; ordered = ordered M b g z e f l (c.thread.ensures _ _ (loose M b g z e f l)) c.sort.ensures }

pub returns : goal.returns
returns c =
    let b : c.args.s.paints ≤ 4294967295 = omega (arith, c.well_formed) in
    let M = c.requires.map in
    let z = c.plane-plane.ensures.0 in
    let e = c.fill.ensures in
    λ ss g.
    let f = c.find_contours-count.ensures ss (ready M b g z e) in
    let l = c.list_islands-m.ensures in
    let t = c.thread.ensures _ _ (loose M b g z e f l) in
    let o = c.sort.ensures in
    record { written = c.write_faces.ensures _ (ordered M b g z e f l t o); changed = rw (← z) (used₅ M b g z e f l t o) }
