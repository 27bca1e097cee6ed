-- The loop of `number_faces`: the first k are numbered.
use Rattle.veneer.specs.Steps.{Numbers}
use Rattle.veneer.proofs.number_faces.Given as goal

abbrev pub invariant-loop-k : goal.invariant-loop-k
invariant-loop-k l = Numbers l.heads l.ids l.list l.k l.initial.work l.initial.sums l.work l.sums
