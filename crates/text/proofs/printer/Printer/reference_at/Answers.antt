-- `printer::Printer::reference_at` meets its contract.
use Rattle.text.specs.Output.{reference_at}
use Rattle.text.proofs.printer.Printer.reference_at.Goals as goal

pub returns : goal.returns
unfolding reference_at
returns c = rw c.get.ensures at c.reference.ensures
