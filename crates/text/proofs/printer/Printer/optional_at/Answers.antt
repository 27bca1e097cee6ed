-- `printer::Printer::optional_at` meets its contract.
use Rattle.text.specs.Output.{optional_at}
use Rattle.text.proofs.printer.Printer.optional_at.Goals as goal

pub returns : goal.returns
unfolding optional_at
returns c = rw c.get.ensures at c.optional.ensures
