-- `calls::check_map` meets its contract.
use native.Mathlib.Nat.{mul-le-mul, mul_assoc}
use native.Mathlib.Omega.{arith}
use Prim.Native.Nat.{◌+◌}
use Rattle.calls.specs.Outcome.{map_of}
use Rattle.calls.proofs.Checks.{too_wide, too_high, wrong_count, short_work, none_early}
use Rattle.calls.proofs.check_map.Goals.{then-s-gt16384-via-then-s-gt16384, then-s-gt16384-via-else-s-gt16384+then-s-gt16384-2}
use Rattle.calls.proofs.check_map.Goals as goal

pub returns-then-s-gt16384 : goal.returns-then-s-gt16384
returns-then-s-gt16384 c =
    let a = c.args in
    let m = map_of a.s a.labels.now in
    elim c.then-s-gt16384.branch [
      | then-s-gt16384-via-then-s-gt16384 w ↦ too_wide m a.work.now w.if-s-gt16384.true
      | then-s-gt16384-via-else-s-gt16384+then-s-gt16384-2 w ↦ too_high m a.work.now w.if-s-gt16384.false w.if-s-gt16384-2.true
    ]

pub overflow_mul-s : goal.overflow_mul-s
overflow_mul-s c = omega (arith, mul-le-mul c.if-s-gt16384.false c.if-s-gt16384-2.false)

pub returns-then-labels-s : goal.returns-then-labels-s
returns-then-labels-s c =
    let a = c.args in wrong_count (map_of a.s a.labels.now) a.work.now c.if-s-gt16384.false c.if-s-gt16384-2.false c.if-labels-s.true

pub returns-then-work-plane : goal.returns-then-work-plane
returns-then-work-plane c =
    let a = c.args in
    let words = mul_assoc 8 (a.s.width + 1) (a.s.height + 1) in
    short_work (map_of a.s a.labels.now) a.work.now c.if-s-gt16384.false c.if-s-gt16384-2.false c.if-labels-s.false (omega (arith, words, c.if-work-plane.true, c.plane.ensures.0))

pub returns : goal.returns
returns c =
    let a = c.args in
    let words = mul_assoc 8 (a.s.width + 1) (a.s.height + 1) in
    none_early (map_of a.s a.labels.now) a.work.now c.if-s-gt16384.false c.if-s-gt16384-2.false c.if-labels-s.false (omega (arith, words, c.if-work-plane.false, c.plane.ensures.0))
