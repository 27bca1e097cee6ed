-- `assemble::step` meets its contract.
use Rattle.assemble.proofs.step.Goals as goal

pub returns : goal.returns
returns c = rw (c.dir_from_delta-d.ensures, c.get-2.ensures, c.get.ensures, c.get-y.ensures, c.get-x.ensures)
