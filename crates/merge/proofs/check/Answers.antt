-- `check` meets its contract.
use mathlib.Core.Bool.{false, ◌&&◌, true≢false}
use mathlib.Core.Path.{◌≡◌, refl, sym, ◌∙◌}
use native.Mathlib.Omega.{arith}
use borrow.Author.Tests.{eq-eqb, ne_eqb}
use Rattle.calls.specs.Outcome.{map_of}
use Rattle.merge.specs.Merge.{stray}
use Rattle.merge.proofs.Checking.{too_wide, too_high, wrong_count, a_stray, short_work, lacking, no_check, words_are}
use Rattle.merge.proofs.check.Goals as goal
use Rattle.merge.proofs.check.Goals.{then-s-gt16384-via-then-s-gt16384, then-s-gt16384-via-else-s-gt16384+then-s-gt16384-2}
use Rattle.merge.proofs.check.Goals.{else-merging-via-then-merging+else-stray, else-merging-via-else-merging}
use Rattle.merge.proofs.check.Goals.{then-colours-n, else-colours-n}
use Rattle.merge.proofs.check.Goals.{else-merging-2-via-then-merging-2+else-regions-n, else-merging-2-via-else-merging-2}

pub returns-then-s-gt16384 : goal.returns-then-s-gt16384
returns-then-s-gt16384 c = elim c.then-s-gt16384.branch [
  | then-s-gt16384-via-then-s-gt16384 w ↦ too_wide _ _ _ _ _ w.if-s-gt16384.true
  | then-s-gt16384-via-else-s-gt16384+then-s-gt16384-2 w ↦ too_high _ _ _ _ _ w.if-s-gt16384.false w.if-s-gt16384-2.true
]

pub returns-then-labels-s : goal.returns-then-labels-s
returns-then-labels-s c = wrong_count _ _ _ _ _ c.if-s-gt16384.false c.if-s-gt16384-2.false c.if-labels-s.true

pub returns-then-stray : goal.returns-then-stray
returns-then-stray c =
    a_stray _ _ _ _ _ c.if-s-gt16384.false c.if-s-gt16384-2.false c.if-labels-s.false (rw (c.if-merging.true, ← c.stray.ensures) c.if-stray.true)

pub returns-then-work-plane : goal.returns-then-work-plane
returns-then-work-plane c =
    let words = words_are (map_of c.args.s c.args.labels.now) _ c.plane.ensures.0 in
    let none : (c.args.merging && stray c.args.s.paints c.args.labels.now) ≡ false = elim c.else-merging.branch [
      | else-merging-via-then-merging+else-stray w ↦ rw w.if-merging.true (sym w.stray.ensures ∙ w.if-stray.false)
      | else-merging-via-else-merging w ↦ rw w.if-merging.false refl
    ] in
    short_work _ _ _ _ _ c.if-s-gt16384.false c.if-s-gt16384-2.false c.if-labels-s.false none (omega (arith, words, c.if-work-plane.true))

pub returns-then-regions-n : goal.returns-then-regions-n
returns-then-regions-n c =
    let words = words_are (map_of c.args.s c.args.labels.now) _ c.plane.ensures.0 in
    let none : (c.args.merging && stray c.args.s.paints c.args.labels.now) ≡ false = elim c.else-merging.branch [
      | else-merging-via-then-merging+else-stray w ↦ rw w.if-merging.true (sym w.stray.ensures ∙ w.if-stray.false)
      | else-merging-via-else-merging w ↦ rw w.if-merging.false refl
    ] in
    lacking _ _ _ _ _ c.if-s-gt16384.false c.if-s-gt16384-2.false c.if-labels-s.false none (omega (arith, words, c.if-work-plane.false))
    (rw c.if-merging-2.true (elim c.if-colours-n.branch [
      | then-colours-n w ↦ rw (ne_eqb _ _ w.if-colours-n.true) refl
      | else-colours-n w ↦ rw (eq-eqb _ _ w.if-colours-n.false) (sym w.value-is ∙ c.if-regions-n.true)
    ]))

pub returns : goal.returns
returns c =
    let words = words_are (map_of c.args.s c.args.labels.now) _ c.plane.ensures.0 in
    let none : (c.args.merging && stray c.args.s.paints c.args.labels.now) ≡ false = elim c.else-merging.branch [
      | else-merging-via-then-merging+else-stray w ↦ rw w.if-merging.true (sym w.stray.ensures ∙ w.if-stray.false)
      | else-merging-via-else-merging w ↦ rw w.if-merging.false refl
    ] in
    no_check _ _ _ _ _ c.if-s-gt16384.false c.if-s-gt16384-2.false c.if-labels-s.false none (omega (arith, words, c.if-work-plane.false))
    (elim c.else-merging-2.branch [
      | else-merging-2-via-then-merging-2+else-regions-n w ↦ rw w.if-merging-2.true (elim w.if-colours-n.branch [
        | then-colours-n v ↦ absurd (true≢false (rw (ne_eqb _ _ v.if-colours-n.true) at (sym v.value-is ∙ w.if-regions-n.false)))
        | else-colours-n v ↦ rw (eq-eqb _ _ v.if-colours-n.false) (sym v.value-is ∙ w.if-regions-n.false)
      ])
      | else-merging-2-via-else-merging-2 w ↦ rw w.if-merging-2.false refl
    ])
