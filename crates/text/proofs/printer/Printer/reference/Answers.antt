-- `printer::Printer::reference` meets its contract.
use Rattle.std.proofs.Common.{sym}
use Rattle.text.proofs.Printing.{◌then◌, prints_as, reference_none, reference_forward, reference_reversed}
use Rattle.text.proofs.printer.Printer.reference.Goals.{then-r-eq0, else-r-eq0}
use Rattle.text.proofs.printer.Printer.reference.Goals as goal

pub returns-then-r-eq-NONE : goal.returns-then-r-eq-NONE
returns-then-r-eq-NONE c =
    prints_as (sym (reference_none c.args.r c.if-r-eq-NONE.true)) c.word.ensures

pub returns : goal.returns
returns c =
    elim c.if-r-eq0.branch [
      | then-r-eq0 w ↦
          prints_as (sym (reference_forward c.args.r c.if-r-eq-NONE.false w.if-r-eq0.true)) (c.field.ensures then (rw w.byte-is at c.byte.ensures))
      | else-r-eq0 w ↦
          prints_as (sym (reference_reversed c.args.r c.if-r-eq-NONE.false w.if-r-eq0.false)) (c.field.ensures then (rw w.byte-is at c.byte.ensures))
    ]
