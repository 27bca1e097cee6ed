-- `printer::Printer::field_at` meets its contract.
use Rattle.text.specs.Output.{field_at}
use Rattle.text.proofs.printer.Printer.field_at.Goals as goal

pub returns : goal.returns
unfolding field_at
returns c = rw c.get.ensures at c.field.ensures
