-- `assemble::find_contours` meets its contract.
use Rattle.assemble.proofs.Rings.{begin, turn_to_rings, all_found}
use Rattle.lattice.specs.Size.{pic}
use native.Mathlib.Omega.{arith}
use Rattle.assemble.proofs.find_contours.Goals as goal

pub discover-k-requires : goal.discover-k-requires
discover-k-requires c =
    let u = c.requires in
    record { ss = u.ss; work₀ = c.args.work.now; stage = begin u.ready; total = u.ready.total }

pub list_rings-requires : goal.list_rings-requires
list_rings-requires c =
    let a = c.args in
    let u = c.requires in
    let t = c.discover-k.ensures u.ss a.work.now u.ready.total (begin u.ready) in
    record { P = pic a.g.size a.g.labels.now; ss = u.ss; work₀ = _; stage = turn_to_rings u.ready.total t; total = u.ready.total }

pub returns : goal.returns
returns c =
    let a = c.args in
    λ ss h.
    let t = c.discover-k.ensures ss a.work.now h.total (begin h) in
    all_found (omega (arith, c.well_formed)) h.total t (c.list_rings.ensures (pic a.g.size a.g.labels.now) ss _ h.total (turn_to_rings h.total t))
