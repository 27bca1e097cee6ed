-- `starts::encode` meets its contract.
use native.Mathlib.Omega.{arith}
use Rattle.lattice.proofs.Planes.{plane_low}
use Rattle.listing.proofs.Codes.{forth_code}
use Rattle.listing.proofs.starts.encode.Goals as goal

pub overflow_sub-result : goal.overflow_sub-result
overflow_sub-result c = let f = forth_code _ _ c.requires.forth in omega (arith, f.0, c.code.ensures)

pub overflow_add-result : goal.overflow_add-result
overflow_add-result c =
    let f = forth_code _ _ c.requires.forth in
    omega (arith, f.0, f.1, c.code.ensures, c.corner_index.ensures.1, plane_low _ _ c.requires.sides.wide c.requires.sides.high)

pub returns : goal.returns
returns c = rw (c.corner_index.ensures.0, c.code.ensures)
