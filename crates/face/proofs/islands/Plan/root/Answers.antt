-- `islands::Plan::root` meets its contract.
use native.Mathlib.Omega.{arith}
use Rattle.face.proofs.islands.Trees.{climb_start, climb_in, climb_top, climb_up, climb_next, climb_less}
use Rattle.face.proofs.islands.Plan.root.Goals as goal

pub loop-r-init : goal.loop-r-init
loop-r-init c = climb_start c.requires

pub returns-then-up-r : goal.returns-then-up-r
returns-then-up-r c = climb_top c.requires c.loop-r.invariant c.if-up-r.true

pub bounds-work-self-in-loop-r : goal.bounds-work-self-in-loop-r
bounds-work-self-in-loop-r c =
    omega (arith, climb_in c.requires c.loop-r.invariant, c.loop-r.invariant.grown.forest.few, c.loop-r.invariant.grown.forest.sizes, c.loop-r.invariant.grown.kept.long, c.well_formed, climb_up c.requires c.loop-r.invariant)

pub loop-r-smaller : goal.loop-r-smaller
loop-r-smaller c = climb_less c.requires c.loop-r.invariant c.if-up-r.false

pub loop-r-preserved : goal.loop-r-preserved
loop-r-preserved c = climb_next c.requires c.loop-r.invariant c.if-up-r.false
