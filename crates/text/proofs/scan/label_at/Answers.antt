-- `scan::label_at` meets its contract.
use Rattle.std.proofs.Common.{sym, ap, ◌∙◌, subst, drop_of_length-le}
use Rattle.text.specs.Grammar.{Read, read_number, read_label}
use Rattle.text.specs.Places.{FieldIs}
use Rattle.text.proofs.Scanning.{byte_first, label_nil, label_dot, label_number}
use Rattle.text.proofs.scan.label_at.Goals as goal

pub returns-in_err-get : goal.returns-in_err-get
returns-in_err-get c =
    let h = c.in_err-get.ensures.lookup in
    let a = c.args in
    rw c.from_residual.ensures (ap (read_label a.stop) (drop_of_length-le a.text.now h.3) ∙ label_nil a.stop c.requires.1)

pub returns-then-branch-eq46 : goal.returns-then-branch-eq46
returns-then-branch-eq46 c =
    let h = c.in_ok-get.ensures.lookup.3 in
    let a = c.args in
    subst (λ (r : Read). FieldIs a.text.now r c.ended_at.result)
    (sym (ap (read_label a.stop) (byte_first a.text.now a.at 46 h.0 (sym c.if-branch-eq46.true ∙ h.1 0)) ∙ label_dot a.stop c.requires.1 _))
    c.ended_at.ensures

pub returns : goal.returns
returns c =
    let h = c.in_ok-get.ensures.lookup.3 in
    let a = c.args in
    let first = byte_first a.text.now a.at _ h.0 (h.1 0) in
    subst (λ (r : Read). FieldIs a.text.now r c.number_at.result)
    (sym (ap (read_label a.stop) first ∙ (label_number a.stop c.requires.1 _ _ c.if-branch-eq46.false ∙ sym (ap (read_number 4294967294 a.stop) first))))
    c.number_at.ensures
