-- `contours::mark_east` meets its contract.
use mathlib.Core.Path.{sym}
use denote.Enum.Bare.{same_true, same_false}
use Rattle.rules.specs.contracts.Dir.{the_type}
use Rattle.lattice.specs.Walker.{dart_of}
use Rattle.face.proofs.contours.Marks.{east_marked_east, east_marked_not}
use Rattle.face.proofs.contours.mark_east.Goals as goal

pub returns-then-eq : goal.returns-then-eq
returns-then-eq c =
    let a = c.args in
    rw c.slot.ensures.0 (sym (east_marked_east a.at a.s.width a.work.now (dart_of a.c) (same_true the_type tt _ _ (sym c.if-eq.ensures))))

pub returns-else-eq : goal.returns-else-eq
returns-else-eq c =
    let a = c.args in
    east_marked_not a.at a.s.width a.work.now (dart_of a.c) (same_false the_type _ _ (sym c.if-eq.ensures))
