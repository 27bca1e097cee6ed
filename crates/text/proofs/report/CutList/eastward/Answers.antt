-- `report::CutList::eastward` meets its contract.
use Rattle.std.proofs.Common.{sym, ◌∙◌, arith}
use Rattle.text.proofs.Marking.{eastward_yes, eastward_no}
use Rattle.text.proofs.report.CutList.eastward.Goals as goal

pub returns-then-get : goal.returns-then-get
returns-then-get c =
    let a = c.args in
    c.from.ensures ∙ (c.get-then-get.ensures ∙ sym (eastward_yes a.self.now.points.now a.i a.j (omega (arith, c.if-get.true, c.get.ensures, c.get-2.ensures))))

pub returns : goal.returns
returns c =
    let a = c.args in
    sym (eastward_no a.self.now.points.now a.i a.j (omega (arith, c.if-get.false, c.get.ensures, c.get-2.ensures)))
