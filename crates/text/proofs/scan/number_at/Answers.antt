-- `scan::number_at` meets its contract.
use Rattle.std.proofs.Common.{sym, ap, ◌∙◌, subst, arith, drop_of_length-le}
use Rattle.text.specs.Grammar.{Read, read_number}
use Rattle.text.specs.Places.{FieldIs}
use Rattle.text.proofs.Scanning.{byte_first, number_nil, number_other, number_one, number_zero}
use Rattle.text.proofs.scan.number_at.Goals as goal

pub returns-in_err-b : goal.returns-in_err-b
returns-in_err-b c =
    let h = c.in_err-b.ensures.lookup in
    let a = c.args in
    rw c.from_residual.ensures (ap (read_number a.most a.stop) (drop_of_length-le a.text.now h.3) ∙ number_nil a.most a.stop c.requires.1)

pub returns-then-zero : goal.returns-then-zero
returns-then-zero c =
    let h = c.in_ok-b.ensures.lookup.3 in
    let a = c.args in
    subst (λ (r : Read). FieldIs a.text.now r c.ended_at.result)
    (sym (ap (read_number a.most a.stop) (byte_first a.text.now a.at 48 h.0 (sym c.if-zero.true ∙ h.1 0)) ∙ number_zero a.most a.stop c.requires.1 _))
    c.ended_at.ensures

pub returns-then-not-is_ascii_digit : goal.returns-then-not-is_ascii_digit
returns-then-not-is_ascii_digit c =
    let h = c.in_ok-b.ensures.lookup.3 in
    let a = c.args in
    ap (read_number a.most a.stop) (byte_first a.text.now a.at _ h.0 (h.1 0)) ∙ number_other a.most a.stop c.requires.1 _ _ c.if-not-is_ascii_digit.ensures.cases

pub returns : goal.returns
returns c =
    let h = c.in_ok-b.ensures.lookup.3 in
    let a = c.args in
    let d = c.if-not-is_ascii_digit.ensures.cases in
    subst (λ (r : Read). FieldIs a.text.now r c.digits_at.result)
    (sym (ap (read_number a.most a.stop) (byte_first a.text.now a.at _ h.0 (h.1 0)) ∙ number_one a.most a.stop c.requires.1 _ _ (omega (arith, d.0, c.if-zero.false)) d.1))
    (rw c.from.ensures at c.digits_at.ensures)
