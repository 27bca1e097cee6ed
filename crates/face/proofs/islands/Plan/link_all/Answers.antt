-- `islands::Plan::link_all` meets its contract.
use mathlib.Core.Path.{◌≡◌}
use Prim.Native.Nat.{◌+◌, ◌*◌, suc}
use native.Mathlib.Omega.{arith}
use Rattle.store.proofs.Writes.{kept_none}
use Rattle.face.proofs.islands.Linking.{links_none, links_then, row_end, rows_end}
use Rattle.face.proofs.islands.Plan.link_all.Goals as goal

pub loop-y-init : goal.loop-y-init
loop-y-init c = let e : 0 * c.args.self.width ≡ 0 = omega arith in rw e (links_none c.requires)

pub loop-x-init : goal.loop-x-init
loop-x-init c =
    let at = c.loop-y.y * c.args.self.width in
    let e : at + 0 ≡ at = omega arith in
    rw e (record { linked = c.loop-y.invariant.linked; kept = kept_none })

pub loop-x-preserved : goal.loop-x-preserved
loop-x-preserved c =
    let at = c.loop-y.y * c.args.self.width in
    let e : at + (c.loop-x.x + 1) ≡ suc (at + c.loop-x.x) = omega arith in
    rw e (links_then c.loop-x.invariant c.link.ensures)

pub loop-y-preserved : goal.loop-y-preserved
loop-y-preserved c =
    links_then c.loop-y.invariant (rw (row_end c.args.self.width c.loop-x.x c.loop-y.y c.loop-x-test.false c.loop-x.auto.x-end) at c.loop-x.invariant)

pub returns : goal.returns
returns c = rw (rows_end c.args.self.width c.args.self.height c.loop-y.y c.loop-y-test.false c.loop-y.auto.y-end) at c.loop-y.invariant
