-- `printer::Printer::point` meets its contract.
use Rattle.text.specs.Output.{point}
use Rattle.text.proofs.Printing.{◌then◌}
use Rattle.text.proofs.printer.Printer.point.Goals as goal

pub returns : goal.returns
unfolding point
returns c =
    c.field.ensures
    then c.byte.ensures
    then c.number.ensures
