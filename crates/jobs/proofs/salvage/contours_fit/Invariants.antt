-- The loop of `salvage::contours_fit`: what it keeps.
use Prim.Native.Nat.{◌-◌, ◌≤◌}
use mathlib.Core.Path.{◌≡◌}
use lib.ListN.{drop}
use Rattle.jobfile.specs.Entries.{words_of}
use Rattle.jobfile.specs.Salvage.{contours_fit}
use Rattle.jobs.proofs.salvage.contours_fit.Given as goal

abbrev pub invariant-loop : goal.invariant-loop
invariant-loop l = (l.at ≤ l.end) × (contours_fit l.n l.count (drop 4 (words_of l.body)) ≡ contours_fit l.n (l.count - l.counter) (drop l.at (words_of l.body)))
