-- The loops of `islands::Plan::link_all`: the pixels before the row y, or before x in it, are linked.
use Prim.Native.Nat.{◌+◌, ◌*◌}
use Rattle.face.specs.Islands.{Links}
use Rattle.face.proofs.islands.Plan.link_all.Given as goal

abbrev pub invariant-loop-y : goal.invariant-loop-y
invariant-loop-y l = Links l.self 0 l.labels l.initial.work (l.y * l.self.width) l.work

abbrev pub invariant-loop-x : goal.invariant-loop-x
invariant-loop-x l = Links l.self (l.y * l.self.width) l.labels l.initial.work (l.y * l.self.width + l.x) l.work
