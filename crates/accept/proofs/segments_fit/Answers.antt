-- `accept::segments_fit` meets its contract.
use mathlib.Core.Path.{◌≡◌}
use native.Mathlib.Omega.{arith}
use Rattle.store.proofs.Writes.{kept_none}
use Rattle.accept.proofs.Stepping.{say_no, by_eqb}
use Rattle.accept.proofs.Segmenting.{sofar_none}
use Rattle.accept.proofs.Summing.{sum_low, kept_so, refuted, two_points, sofar_next, sofar_as, all_done, other_sum, less_sum}
use Rattle.accept.proofs.segments_fit.Goals as goal

pub loop-i-init : goal.loop-i-init
loop-i-init c = sofar_none _ _ _ c.requires.unmarked c.requires.marks kept_none

pub returns-then-not-segment_fits : goal.returns-then-not-segment_fits
returns-then-not-segment_fits c = (say_no (refuted c.requires.map c.loop-i.invariant c.segment_fits.ensures c.loop-i-test.true c.if-not-segment_fits.true), kept_so c.requires.map c.loop-i.invariant c.segment_fits.ensures)

pub overflow_sub-total : goal.overflow_sub-total
overflow_sub-total c = omega (arith, c.word.ensures, two_points c.requires.map c.loop-i.invariant c.segment_fits.ensures c.if-not-segment_fits.false)

pub overflow_add-total : goal.overflow_add-total
overflow_add-total c = let h = less_sum _ c.word.ensures (sum_low c.requires.map (sofar_next c.requires.map c.loop-i.invariant c.segment_fits.ensures c.if-not-segment_fits.false)) in omega (arith, h)

pub loop-i-preserved : goal.loop-i-preserved
loop-i-preserved c = sofar_as _ c.word.ensures (sofar_next c.requires.map c.loop-i.invariant c.segment_fits.ensures c.if-not-segment_fits.false)

pub returns : goal.returns
returns c =
    let h : c.loop-i.i ≡ c.args.count = omega (arith, c.loop-i-test.false, c.loop-i.auto.i-end) in
    (by_eqb _ _ (all_done c.requires.map c.loop-i.invariant h) (other_sum c.requires.map c.loop-i.invariant h), c.loop-i.invariant.kept)
