-- `jobs::salvage::contours_fit` meets its contract. The loop's invariant: what is asked of all is what is asked of the contours left, from `at` on.
use Prim.Native.Nat.{◌+◌, ◌-◌}
use mathlib.Core.Path.{◌≡◌, sym, ap, ◌∙◌}
use native.Mathlib.Omega.{arith}
use lib.ListN.{drop}
use borrow.Author.Tests.{le-leb, lt-leb}
use Rattle.jobfile.specs.Entries.{words_of}
use Rattle.jobfile.specs.Salvage.{contours_fit}
use Rattle.jobs.proofs.Bodies.{contour_next, contour_short, contours_end}
use Rattle.jobs.proofs.salvage.contours_fit.Goals as goal
use Rattle.jobs.proofs.salvage.contours_fit.Goals.{then-room-k-via-then-room-k, then-room-k-via-else-room-k+then-not-references_fit}

pub returns-then-end-at : goal.returns-then-end-at
returns-then-end-at c =
    let a = c.args in
    let l = c.loop in
    sym (l.invariant.1 ∙ contour_short a.n (words_of a.body.now) c.words-end.result c.words-end.ensures (a.count - l.counter) l.at (omega arith) c.if-end-at.true)

pub returns-then-room-k : goal.returns-then-room-k
returns-then-room-k c =
    let a = c.args in
    let l = c.loop in
    let k = c.word-k.result in
    let room = c.words-end.result - l.at - 1 in
    let f = l.invariant.1 ∙ contour_next a.n (words_of a.body.now) c.words-end.result c.words-end.ensures (a.count - l.counter) l.at k (omega arith) c.if-end-at.false c.word-k.ensures in
    elim c.then-room-k.branch [
      | then-room-k-via-then-room-k w ↦ sym (f ∙ rw (lt-leb k room w.if-room-k.true))
      | then-room-k-via-else-room-k+then-not-references_fit w ↦ sym (f ∙ rw (le-leb k room w.if-room-k.false, sym w.references_fit.ensures ∙ w.if-not-references_fit.true))
    ]

pub loop-preserved : goal.loop-preserved
loop-preserved c =
    let a = c.args in
    let l = c.loop in
    let k = c.word-k.result in
    let room = c.words-end.result - l.at - 1 in
    let e : a.count - l.counter - 1 ≡ a.count - (l.counter + 1) = omega arith in
    let f = l.invariant.1 ∙ contour_next a.n (words_of a.body.now) c.words-end.result c.words-end.ensures (a.count - l.counter) l.at k (omega arith) c.if-end-at.false c.word-k.ensures in
    (omega arith, f ∙ rw (le-leb k room c.if-room-k.false, sym c.references_fit.ensures ∙ c.if-not-references_fit.false, e))

pub returns : goal.returns
returns c =
    let a = c.args in
    let e : a.count - c.loop.counter ≡ 0 = omega arith in
    sym (c.loop.invariant.1 ∙ (ap (λ k. contours_fit a.n k (drop c.loop.at (words_of a.body.now))) e ∙ contours_end a.n (words_of a.body.now) c.words-end.result c.words-end.ensures c.loop.at c.loop.invariant.0))
