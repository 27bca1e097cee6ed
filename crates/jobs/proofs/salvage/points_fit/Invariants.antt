-- The loop of `salvage::points_fit`: what it keeps.
use Prim.Native.Nat.{◌*◌}
use mathlib.Core.Path.{◌≡◌}
use lib.ListN.{drop}
use Rattle.jobfile.specs.Entries.{words_of, pairs}
use Rattle.jobfile.specs.Salvage.{points_fit}
use Rattle.jobs.proofs.Bodies.{follows}
use Rattle.jobs.proofs.salvage.points_fit.Given as goal

abbrev pub invariant-loop-i : goal.invariant-loop-i
invariant-loop-i l = points_fit l.width l.height (pairs (words_of l.body)) ≡ follows l.width l.height l.last (pairs (drop (2 * l.i) (words_of l.body)))
