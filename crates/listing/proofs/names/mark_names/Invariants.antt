-- The loop of `names::mark_names`. Its invariant: the marks of the first k names.
use Rattle.listing.specs.Names.{MarksNames}
use Rattle.listing.proofs.names.mark_names.Given as goal

abbrev pub invariant-loop-name : goal.invariant-loop-name
invariant-loop-name l = MarksNames l.labels l.list l.marks l.m l.initial.work l.named l.name-index l.work
