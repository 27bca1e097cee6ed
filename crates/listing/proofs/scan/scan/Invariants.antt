-- The loop of `scan::scan`. Its invariant: what is found before the row y.
use Rattle.rules.specs.Picture.{dart}
use Rattle.rules.specs.declared.Dir.TheVariants.{E}
use Rattle.listing.specs.Finding.{Finds}
use Rattle.listing.proofs.scan.scan.Given as goal

abbrev pub invariant-loop-y : goal.invariant-loop-y
invariant-loop-y l = Finds l.s l.labels (dart 0 0 E) 0 l.initial.work (dart 0 l.y E) l.n l.work
