-- `find` meets its contract.
use mathlib.Core.Path.{sym, ◌∙◌}
use native.Mathlib.Omega.{arith}
use Rattle.merge.proofs.Climbing.{climb_start, climb_room, climb_up_room, climb_top, climb_next, climb_less}
use Rattle.merge.proofs.find.Goals as goal

pub loop-r-init : goal.loop-r-init
loop-r-init c = climb_start c.args.n c.args.l _ c.requires

pub get-up-requires : goal.get-up-requires
get-up-requires c = omega (arith, climb_room _ _ _ c.requires _ _ c.loop-r.invariant)

pub returns-then-up-r : goal.returns-then-up-r
returns-then-up-r c = climb_top _ _ _ c.requires _ _ c.loop-r.invariant (sym c.get-up.ensures ∙ c.if-up-r.true)

pub get-over-requires : goal.get-over-requires
get-over-requires c = omega (arith, climb_up_room _ _ _ c.requires _ _ c.loop-r.invariant, c.get-up.ensures)

pub put-requires : goal.put-requires
put-requires c = omega (arith, climb_room _ _ _ c.requires _ _ c.loop-r.invariant)

pub loop-r-smaller : goal.loop-r-smaller
loop-r-smaller c = rw (c.put.ensures, c.get-over.ensures, c.get-up.ensures) (climb_less _ _ _ c.requires _ _ c.loop-r.invariant (λ e. c.if-up-r.false (c.get-up.ensures ∙ e)))

pub loop-r-preserved : goal.loop-r-preserved
loop-r-preserved c = rw (c.put.ensures, c.get-over.ensures, c.get-up.ensures) (climb_next _ _ _ c.requires _ _ c.loop-r.invariant (λ e. c.if-up-r.false (c.get-up.ensures ∙ e)))
