-- The loops of `PairTable::scan`: the list holds the pairs of the pixels so far.
use Prim.Native.Nat.{◌+◌, ◌*◌}
use Rattle.merge.specs.Noted.{Scanned}
use Rattle.merge.proofs.PairTable.scan.Given as goal

abbrev pub invariant-loop-y : goal.invariant-loop-y
invariant-loop-y l = Scanned l.width (l.y * l.width) l.labels l.initial.work l.count l.work

abbrev pub invariant-loop-x : goal.invariant-loop-x
invariant-loop-x l = Scanned l.width (l.y * l.width + l.x) l.labels l.fn.work l.count l.work
