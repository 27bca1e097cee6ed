-- The loop of `tray::tray`. Its invariant: the first i maps are done, and each store keeps its length.
use mathlib.Core.Path.{◌≡◌}
use lib.ListN.{length}
use Rattle.tray.specs.Steps.{stores_with}
use Rattle.tray.proofs.Progress.{Progress}
use Rattle.tray.proofs.tray.Given as goal

abbrev pub invariant-loop-i : goal.invariant-loop-i
invariant-loop-i l =
    Progress l.mode l.maps l.labels l.initial.work (stores_with l.initial.nodes l.initial.segments l.initial.points l.initial.references l.initial.contours l.initial.faces) l.initial.answers l.i l.p l.work (stores_with l.nodes l.segments l.points l.references l.contours l.faces) l.answers
    × (length l.work ≡ length l.initial.work) × (length l.nodes ≡ length l.initial.nodes) × (length l.segments ≡ length l.initial.segments) × (length l.points ≡ length l.initial.points)
    × (length l.references ≡ length l.initial.references) × (length l.contours ≡ length l.initial.contours) × (length l.faces ≡ length l.initial.faces) × (length l.answers ≡ length l.initial.answers)
