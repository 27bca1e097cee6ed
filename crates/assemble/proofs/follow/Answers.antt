-- `assemble::follow` meets its contract.
use Rattle.assemble.proofs.Following.{begin, ends_here, going, gone}
use native.Mathlib.Omega.{arith}
use mathlib.Core.Path.{sym}
use borrow.Author.Tests.{eqb-true, eqb-false}
use Rattle.assemble.proofs.follow.Goals as goal

pub loop-r-init : goal.loop-r-init
loop-r-init c = begin _ _ _ _ _ _ _ c.requires.closes (omega arith)

pub next-next-requires : goal.next-next-requires
next-next-requires c = ends_here _ _ _ _ _ _ _ c.loop-r.invariant

pub returns-then-eq : goal.returns-then-eq
returns-then-eq c =
    gone _ _ _ _ _ _ _ c.loop-r.invariant c.next-next.ensures c.put.ensures (eqb-true _ _ (sym c.if-eq.ensures))

pub loop-r-smaller : goal.loop-r-smaller
loop-r-smaller c =
    (going _ _ _ _ _ _ _ c.loop-r.invariant c.next-next.ensures c.put.ensures (omega (arith, c.next-next.type_inv)) (eqb-false _ _ (sym c.if-eq.ensures))).1

pub loop-r-preserved : goal.loop-r-preserved
loop-r-preserved c =
    (going _ _ _ _ _ _ _ c.loop-r.invariant c.next-next.ensures c.put.ensures (omega (arith, c.next-next.type_inv)) (eqb-false _ _ (sym c.if-eq.ensures))).0
