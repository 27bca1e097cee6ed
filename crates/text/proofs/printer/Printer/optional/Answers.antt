-- `printer::Printer::optional` meets its contract.
use Rattle.std.proofs.Common.{sym}
use Rattle.text.proofs.Printing.{◌then◌, prints_as, optional_none, optional_some}
use Rattle.text.proofs.printer.Printer.optional.Goals as goal

pub returns-then-n-eq-NONE : goal.returns-then-n-eq-NONE
returns-then-n-eq-NONE c =
    let a = c.args in
    prints_as (sym (optional_none a.none a.n c.if-n-eq-NONE.true)) (c.byte.ensures then c.byte-then-n-eq-NONE.ensures)

pub returns : goal.returns
returns c =
    let a = c.args in
    prints_as (sym (optional_some a.none a.n c.if-n-eq-NONE.false)) c.field.ensures
