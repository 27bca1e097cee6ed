-- The loop of `colour_all`: what it keeps.
use Rattle.merge.proofs.Colouring.{Colouring}
use Rattle.merge.proofs.colour_all.Given as goal

abbrev pub invariant-loop-l : goal.invariant-loop-l
invariant-loop-l l = Colouring l.n l.colours l.initial.regions l.l l.regions
