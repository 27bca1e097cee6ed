-- `field` meets its contract.
use Rattle.text.specs.Output.{field}
use Rattle.text.proofs.Printing.{◌then◌}
use Rattle.text.proofs.printer.Printer.field.Goals as goal

pub returns : goal.returns
unfolding field
returns c =
    c.byte.ensures
    then c.number.ensures
