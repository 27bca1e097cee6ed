-- `printer::Printer::point_at` meets its contract.
use Rattle.text.specs.Output.{point_at}
use Rattle.text.proofs.printer.Printer.point_at.Goals as goal

pub returns : goal.returns
unfolding point_at
returns c = rw (c.get.ensures, c.get-2.ensures) at c.point.ensures
