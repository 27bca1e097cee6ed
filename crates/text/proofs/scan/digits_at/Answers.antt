-- `scan::digits_at` meets its contract.
use Rattle.std.proofs.Common.{refl, ◌-◌, ◌*◌, ℕ, ◌≡◌, ◌+◌, ◌<◌, List, ◌∷◌, length, drop, get_or, ap, ◌∙◌, arith, drop_of_length-le}
use Rattle.text.specs.Grammar.{more_digits}
use Rattle.text.proofs.Scanning.{byte_first, more_nil, more_stop, more_over, more_one, more_other}
use Rattle.text.proofs.scan.digits_at.Goals as goal

-- a turn: the byte at i, first in what is left of the text
turned : (start most stop : ℕ) (text : List ℕ) (from v i : ℕ) → more_digits start most stop (drop from text) ≡ more_digits v most stop (drop i text)
    → i < length text → more_digits start most stop (drop from text) ≡ more_digits v most stop (get_or text i 0 ∷ drop (i + 1) text)
turned start most stop text from v i e h = e ∙ ap (more_digits v most stop) (byte_first text i (get_or text i 0) h refl)

pub returns-then-most-value : goal.returns-then-most-value
returns-then-most-value c = let a = c.args in c.loop-i.invariant ∙ more_over a.most a.stop _ _ c.if-most-value.true

pub returns-then-b-stop : goal.returns-then-b-stop
returns-then-b-stop c =
    let a = c.args in
    let l = c.loop-i in
    (turned a.start a.most a.stop a.text.now a.from l.value l.i l.invariant c.loop-i-test.true ∙ more_stop a.most a.stop _ _ _ c.if-b-stop.true c.if-most-value.false, omega arith)

pub returns-then-not-is_ascii_digit : goal.returns-then-not-is_ascii_digit
returns-then-not-is_ascii_digit c =
    let a = c.args in
    let l = c.loop-i in
    turned a.start a.most a.stop a.text.now a.from l.value l.i l.invariant c.loop-i-test.true ∙ more_other a.most a.stop _ _ _ c.if-b-stop.false c.if-not-is_ascii_digit.ensures.cases

pub returns-in_err-checked_mul : goal.returns-in_err-checked_mul
returns-in_err-checked_mul c =
    let a = c.args in
    let l = c.loop-i in
    let d = c.if-not-is_ascii_digit.ensures.cases in
    let e : l.value * 10 < 4294967296 → ⊥ = c.in_err-checked_mul.ensures in
    rw c.from_residual.ensures (turned a.start a.most a.stop a.text.now a.from l.value l.i l.invariant c.loop-i-test.true ∙ (more_one a.most a.stop _ _ _ c.if-b-stop.false d.0 d.1 ∙ more_over a.most a.stop _ _ (omega (arith, c.ranges.most.fits))))

pub returns-in_err-value : goal.returns-in_err-value
returns-in_err-value c =
    let a = c.args in
    let l = c.loop-i in
    let d = c.if-not-is_ascii_digit.ensures.cases in
    let o = c.in_ok-checked_mul.ensures in
    let e : c.in_ok-checked_mul.field-0 + c.from.result < 4294967296 → ⊥ = c.in_err-value.ensures in
    rw c.from_residual-in_err-value.ensures
    (turned a.start a.most a.stop a.text.now a.from l.value l.i l.invariant c.loop-i-test.true ∙ (more_one a.most a.stop _ _ _ c.if-b-stop.false d.0 d.1 ∙ more_over a.most a.stop _ _ (omega (arith, o.1, c.from.ensures, c.ranges.most.fits))))

pub loop-i-preserved : goal.loop-i-preserved
loop-i-preserved c =
    let a = c.args in
    let l = c.loop-i in
    let d = c.if-not-is_ascii_digit.ensures.cases in
    let o = c.in_ok-checked_mul.ensures in
    let sum : 10 * l.value + (get_or a.text.now l.i 0 - 48) ≡ c.in_ok-value.value = omega (arith, o.1, c.from.ensures, c.in_ok-value.ensures.1) in
    rw sum at (turned a.start a.most a.stop a.text.now a.from l.value l.i l.invariant c.loop-i-test.true ∙ more_one a.most a.stop _ _ _ c.if-b-stop.false d.0 d.1)

pub returns : goal.returns
returns c =
    let a = c.args in
    let l = c.loop-i in
    l.invariant ∙ (ap (more_digits l.value a.most a.stop) (drop_of_length-le a.text.now c.loop-i-test.false) ∙ more_nil a.most a.stop _)
