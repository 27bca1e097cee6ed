-- The loop of `write::write_pieces`. Its invariant: the first i pieces stand at the front.
use mathlib.Core.Path.{◌≡◌}
use lib.ListN.{length}
use lib.Seq.{sets}
use Rattle.listing.specs.Writing.{pieces_in}
use Rattle.listing.proofs.write.write_pieces.Given as goal

abbrev pub invariant-loop-i : goal.invariant-loop-i
invariant-loop-i l = (l.listing ≡ sets l.initial.listing 0 (pieces_in l.s l.labels l.work l.i)) × (l.at ≡ length (pieces_in l.s l.labels l.work l.i))
