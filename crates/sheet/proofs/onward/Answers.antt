-- `sheet::onward` meets its contract. The loop's invariant: from the place reached the rest of the way is the same.
use mathlib.Core.Path.{refl, sym, ◌∙◌}
use Prim.Native.Nat.{◌-◌}
use Rattle.sheet.proofs.Calls.{stays, none_left, passes}
use Rattle.sheet.proofs.onward.Goals as goal

pub loop-at-init : goal.loop-at-init
loop-at-init c = refl

pub loop-at-preserved : goal.loop-at-preserved
loop-at-preserved c = let l = c.loop-at in let a = c.args in sym (passes a.segments.now a.points.now a.count l.at.segment l.at.place c.loop-at-test.true (sym c.over.ensures ∙ c.if-over.true)) ∙ l.invariant

pub returns-else-over : goal.returns-else-over
returns-else-over c = let l = c.loop-at in let a = c.args in sym (stays a.segments.now a.points.now (a.count - l.at.segment) l.at.segment l.at.place (sym c.over.ensures ∙ c.if-over.false)) ∙ l.invariant

pub returns-after-loop-at : goal.returns-after-loop-at
returns-after-loop-at c = let l = c.loop-at in let a = c.args in sym (none_left a.segments.now a.points.now a.count l.at.segment l.at.place c.loop-at-test.false) ∙ l.invariant
