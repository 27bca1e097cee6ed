-- `sheet::Mover::here` meets its contract.
use mathlib.Core.Path.{refl, sym, ◌∙◌}
use Rattle.sheet.proofs.Calls.{all_done, record_outside, moves_on, stays_there, same_told}
use Rattle.sheet.proofs.Mover.here.Goals as goal

pub returns-then-self-at : goal.returns-then-self-at
returns-then-self-at c = let a = c.args in sym (all_done a.segments.now a.points.now a.self c.if-self-at.true)

pub returns-then-segments-i : goal.returns-then-segments-i
returns-then-segments-i c = let a = c.args in sym (record_outside a.segments.now a.points.now a.self c.if-self-at.false c.if-segments-i.true)

pub returns-then-count-at : goal.returns-then-count-at
returns-then-count-at c =
    let a = c.args in
    let made = c.move_at-made.ensures in
    sym (stays_there a.segments.now a.points.now a.self c.if-self-at.false c.if-segments-i.false (rw c.at-count.ensures at c.if-count-at.true)
    ∙ same_told (sym (rw (c.at-first.ensures, c.at-count.ensures) at made)) refl)

pub returns : goal.returns
returns c =
    let a = c.args in
    let made = c.move_at-made.ensures in
    sym (moves_on a.segments.now a.points.now a.self c.if-self-at.false c.if-segments-i.false (rw c.at-count.ensures at c.if-count-at.false)
    ∙ same_told (sym (rw (c.at-first.ensures, c.at-count.ensures) at made)) (sym c.moved.ensures))
