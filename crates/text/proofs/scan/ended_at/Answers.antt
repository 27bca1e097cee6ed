-- `scan::ended_at` meets its contract.
use Rattle.std.proofs.Common.{ap, ◌∙◌, arith, drop_of_length-le}
use Rattle.text.specs.Grammar.{ended}
use Rattle.text.proofs.Scanning.{byte_first, ended_nil, ended_stop, ended_other}
use Rattle.text.proofs.scan.ended_at.Goals as goal

pub returns-in_err-get : goal.returns-in_err-get
returns-in_err-get c =
    let h = c.in_err-get.ensures.lookup in
    let a = c.args in
    rw c.from_residual.ensures (ap (ended a.value a.stop) (drop_of_length-le a.text.now h.3) ∙ ended_nil a.value a.stop)

pub returns-then-branch-stop : goal.returns-then-branch-stop
returns-then-branch-stop c =
    let h = c.in_ok-get.ensures.lookup.3 in
    let a = c.args in
    (ap (ended a.value a.stop) (byte_first a.text.now a.at _ h.0 (h.1 0)) ∙ ended_stop a.value a.stop _ _ c.if-branch-stop.true, omega (arith, h.0))

pub returns : goal.returns
returns c =
    let h = c.in_ok-get.ensures.lookup.3 in
    let a = c.args in
    ap (ended a.value a.stop) (byte_first a.text.now a.at _ h.0 (h.1 0)) ∙ ended_other a.value a.stop _ _ c.if-branch-stop.false
