-- `give` meets its contract.
use mathlib.Core.List.{[], ◌∷◌}
use mathlib.Core.Path.{refl}
use native.Mathlib.Omega.{arith}
use Rattle.merge.proofs.Leaving.{shades, given_old, given_few, given_room, given_new, part_written, part_long}
use Rattle.merge.proofs.give.Goals as goal

pub returns-then-named : goal.returns-then-named
returns-then-named c = given_old _ _ _ _ _ _ c.requires _ c.get-e.ensures (c.named.ensures.yes c.if-named.true)

pub overflow_cast-red : goal.overflow_cast-red
overflow_cast-red c = let h = shades c.requires.leaving _ c.requires.below in omega (arith, h.0, c.get-red.ensures)

pub overflow_cast-green : goal.overflow_cast-green
overflow_cast-green c = let h = shades c.requires.leaving _ c.requires.below in omega (arith, h.1.0, c.get-green.ensures)

pub overflow_cast-blue : goal.overflow_cast-blue
overflow_cast-blue c = let h = shades c.requires.leaving _ c.requires.below in omega (arith, h.1.1, c.get-blue.ensures)

pub copy_from_slice-requires : goal.copy_from_slice-requires
copy_from_slice-requires c = part_long _ _ (given_room _ _ _ _ _ _ c.requires _ c.get-e.ensures (c.named.ensures.no c.if-named.false))

pub slice_bounds-copy_from_slice-end : goal.slice_bounds-copy_from_slice-end
slice_bounds-copy_from_slice-end c = given_room _ _ _ _ _ _ c.requires _ c.get-e.ensures (c.named.ensures.no c.if-named.false)

pub overflow_cast-k : goal.overflow_cast-k
overflow_cast-k c = omega (arith, given_few _ _ _ _ _ _ c.requires _ c.get-e.ensures (c.named.ensures.no c.if-named.false), c.requires.leaving.held.few)

pub returns : goal.returns
returns c = given_new _ _ _ _ _ _ c.requires _ c.get-e.ensures (c.named.ensures.no c.if-named.false) _ _ _ c.get-red.ensures c.get-green.ensures c.get-blue.ensures _ _
    (rw c.copy_from_slice.ensures.after (part_written _ (c.get-red.result ∷ c.get-green.result ∷ c.get-blue.result ∷ []) _ refl (given_room _ _ _ _ _ _ c.requires _ c.get-e.ensures (c.named.ensures.no c.if-named.false)))) c.put.ensures
