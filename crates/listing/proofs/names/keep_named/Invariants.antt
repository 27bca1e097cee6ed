-- The loop of `names::keep_named`. Its invariant: what is kept of the first i islands.
use Rattle.listing.specs.Names.{Keeps}
use Rattle.listing.proofs.names.keep_named.Given as goal

abbrev pub invariant-loop-i : goal.invariant-loop-i
invariant-loop-i l = Keeps l.heads l.list l.marks l.m l.initial.work l.i l.n l.work
