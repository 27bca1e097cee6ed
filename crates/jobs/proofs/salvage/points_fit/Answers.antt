-- `jobs::salvage::points_fit` meets its contract. The loop's invariant: what is asked of all is what is asked of the points behind `last`.
use mathlib.Core.Path.{sym, ◌∙◌}
use native.Mathlib.Omega.{arith}
use borrow.Author.Tests.{le-leb, lt-leb}
use Rattle.jobfile.specs.Entries.{words_of}
use Rattle.jobs.proofs.Bodies.{few_points, first_point_lem, follow_next, follow_end}
use Rattle.jobs.proofs.salvage.points_fit.Goals as goal
use Rattle.jobs.proofs.salvage.points_fit.Goals.{then-width-last-via-then-width-last, then-width-last-via-else-width-last+then-height-last}
use Rattle.jobs.proofs.salvage.points_fit.Goals.{then-width-next-via-then-width-next, then-width-next-via-else-width-next+then-height-next, then-width-next-via-else-width-next+else-height-next+then-not-unit_apart}

pub returns-then-n-lt2 : goal.returns-then-n-lt2
returns-then-n-lt2 c = let a = c.args in sym (few_points a.width a.height (words_of a.body.now) (omega (arith, c.requires)))

pub returns-then-width-last : goal.returns-then-width-last
returns-then-width-last c =
    let a = c.args in
    let p = c.point-last in
    let f = first_point_lem a.width a.height (words_of a.body.now) p.result.0 p.result.1 (omega (arith, c.requires)) p.ensures.0 p.ensures.1 in
    elim c.then-width-last.branch [
      | then-width-last-via-then-width-last w ↦ sym (f ∙ rw (lt-leb p.result.0 a.width w.if-width-last.true))
      | then-width-last-via-else-width-last+then-height-last w ↦ sym (f ∙ rw (le-leb p.result.0 a.width w.if-width-last.false, lt-leb p.result.1 a.height w.if-height-last.true))
    ]

pub loop-i-init : goal.loop-i-init
loop-i-init c =
    let a = c.args in
    let p = c.point-last in
    first_point_lem a.width a.height (words_of a.body.now) p.result.0 p.result.1 (omega (arith, c.requires)) p.ensures.0 p.ensures.1
    ∙ rw (le-leb p.result.0 a.width c.if-width-last.false, le-leb p.result.1 a.height c.if-height-last.false)

pub returns-then-width-next : goal.returns-then-width-next
returns-then-width-next c =
    let a = c.args in
    let l = c.loop-i in
    let p = c.point-next in
    let f = l.invariant ∙ follow_next a.width a.height (words_of a.body.now) l.last l.i p.result.0 p.result.1 (omega (arith, c.requires)) p.ensures.0 p.ensures.1 in
    elim c.then-width-next.branch [
      | then-width-next-via-then-width-next w ↦ sym (f ∙ rw (lt-leb p.result.0 a.width w.if-width-next.true))
      | then-width-next-via-else-width-next+then-height-next w ↦ sym (f ∙ rw (le-leb p.result.0 a.width w.if-width-next.false, lt-leb p.result.1 a.height w.if-height-next.true))
      | then-width-next-via-else-width-next+else-height-next+then-not-unit_apart w ↦
          sym (f ∙ rw (le-leb p.result.0 a.width w.if-width-next.false, le-leb p.result.1 a.height w.if-height-next.false, sym w.unit_apart.ensures ∙ w.if-not-unit_apart.true))
    ]

pub loop-i-preserved : goal.loop-i-preserved
loop-i-preserved c =
    let a = c.args in
    let l = c.loop-i in
    let p = c.point-next in
    l.invariant ∙ follow_next a.width a.height (words_of a.body.now) l.last l.i p.result.0 p.result.1 (omega (arith, c.requires)) p.ensures.0 p.ensures.1
    ∙ rw (le-leb p.result.0 a.width c.if-width-next.false, le-leb p.result.1 a.height c.if-height-next.false, sym c.unit_apart.ensures ∙ c.if-not-unit_apart.false)

pub returns : goal.returns
returns c = let a = c.args in sym (c.loop-i.invariant ∙ follow_end a.width a.height (words_of a.body.now) _ c.loop-i.i (omega (arith, c.requires)))
