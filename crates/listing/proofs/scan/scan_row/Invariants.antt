-- The loop of `scan::scan_row`. Its invariant: what is found before the step east from (x, y).
use Rattle.rules.specs.Picture.{dart}
use Rattle.rules.specs.declared.Dir.TheVariants.{E}
use Rattle.listing.specs.Finding.{Finds}
use Rattle.listing.proofs.scan.scan_row.Given as goal

abbrev pub invariant-loop-x : goal.invariant-loop-x
invariant-loop-x l = Finds l.s l.labels (dart 0 l.y E) l.k l.initial.work (dart l.x l.y E) l.n l.work
