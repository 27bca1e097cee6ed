-- `islands::Plan::settle_all` meets its contract.
use mathlib.Core.Path.{◌≡◌}
use native.Mathlib.Omega.{arith}
use Prim.Native.Nat.{suc, ◌+◌}
use Rattle.face.proofs.islands.Settling.{settling_start, settling_ready, settling_next, settling_room, settling_end}
use Rattle.face.specs.Islands.{area}
use Rattle.face.proofs.islands.Plan.settle_all.Goals as goal

pub loop-q-init : goal.loop-q-init
loop-q-init c = settling_start c.requires.linked c.requires.word

pub settle-count-requires : goal.settle-count-requires
settle-count-requires c =
    settling_ready c.requires.linked c.requires.word c.loop-q.invariant (omega (arith, c.loop-q-test.true, c.requires.linked.forest.sizes.labels))

pub overflow_add-count : goal.overflow_add-count
overflow_add-count c =
    omega (arith, settling_room c.requires.linked c.requires.word c.loop-q.invariant (omega (arith, c.loop-q-test.true, c.requires.linked.forest.sizes.labels)) c.settle-count.ensures)

pub loop-q-preserved : goal.loop-q-preserved
loop-q-preserved c =
    let one : c.loop-q.q + 1 ≡ suc c.loop-q.q = omega arith in
    rw one (settling_next c.requires.linked c.requires.word c.loop-q.invariant (omega (arith, c.loop-q-test.true, c.requires.linked.forest.sizes.labels)) c.settle-count.ensures)

pub returns : goal.returns
returns c =
    let t = c.loop-q.invariant in
    let e : c.loop-q.q ≡ area c.args.self = omega (arith, c.loop-q-test.false, t.within, c.requires.linked.forest.sizes.labels) in
    settling_end c.requires.linked c.requires.word (rw e at t)
