-- The loop of `assemble::list_islands`: what it keeps.
use Rattle.assemble.specs.Groups.{Leaders}
use Rattle.assemble.proofs.list_islands.Given as goal

abbrev pub invariant-loop-p : goal.invariant-loop-p
invariant-loop-p l = Leaders l.paints l.bound l.heads l.ids l.list l.labels l.initial.work l.p l.m l.work
