-- `sheet::over` meets its contract.
use mathlib.Core.Path.{sym}
use Rattle.sheet.proofs.Calls.{no_record, no_part, by_place}
use Rattle.sheet.proofs.over.Goals as goal

pub returns-then-segments-i : goal.returns-then-segments-i
returns-then-segments-i c = let a = c.args in sym (no_record a.segments.now a.points.now a.at.segment a.at.place c.if-segments-i.true)

pub returns-then-points-first : goal.returns-then-points-first
returns-then-points-first c = let a = c.args in sym (no_part a.segments.now a.points.now a.at.segment a.at.place c.if-segments-i.false (rw (c.at-first.ensures, c.at-count.ensures) at c.if-points-first.true))

pub returns : goal.returns
returns c = let a = c.args in rw c.at-count.ensures (sym (by_place a.segments.now a.points.now a.at.segment a.at.place c.if-segments-i.false (rw (c.at-first.ensures, c.at-count.ensures) at c.if-points-first.false)))
