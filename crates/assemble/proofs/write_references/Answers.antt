-- `assemble::write_references` meets its contract.
use Rattle.assemble.proofs.Runs.{begin, going, back, away}
use native.Mathlib.Omega.{arith}
use Rattle.assemble.proofs.write_references.Goals as goal

pub loop-r-init : goal.loop-r-init
loop-r-init c = begin _ _ _ _ _ c.requires.going

pub returns-then-word-r : goal.returns-then-word-r
returns-then-word-r c =
    back _ _ _ _ _ c.loop-r.invariant c.put.ensures c.get-word.ensures c.if-word-r.true

pub returns-then-word-ge-LINK : goal.returns-then-word-ge-LINK
returns-then-word-ge-LINK c =
    away _ _ _ _ _ c.loop-r.invariant c.put.ensures c.get-word.ensures c.if-word-r.false c.if-word-ge-LINK.true (omega (arith, c.get-word.type_inv))

pub loop-r-smaller : goal.loop-r-smaller
loop-r-smaller c =
    (going _ _ _ _ _ c.loop-r.invariant c.put.ensures c.get-word.ensures c.if-word-r.false c.if-word-ge-LINK.false).1

pub loop-r-preserved : goal.loop-r-preserved
loop-r-preserved c =
    (going _ _ _ _ _ c.loop-r.invariant c.put.ensures c.get-word.ensures c.if-word-r.false c.if-word-ge-LINK.false).0
