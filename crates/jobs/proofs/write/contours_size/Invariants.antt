-- The loop of `write::contours_size`: what it keeps.
use Prim.Native.Nat.{ℕ, ◌%◌, ◌<◌}
use mathlib.Core.Path.{◌≡◌}
use mathlib.Core.List.{List}
use lib.ListN.{length}
use Rattle.jobs.specs.Stored.{pieces, stored_contour}
use Rattle.jobs.proofs.write.contours_size.Given as goal

abbrev pub invariant-loop-i : goal.invariant-loop-i
invariant-loop-i l = (l.t < 4294967296) × ((rs : List ℕ) → l.t ≡ length (pieces (stored_contour l.contours rs) l.i l.first) % 4294967296)
