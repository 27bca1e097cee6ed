-- `workbench::check_given` meets its contract.
use Rattle.rules.specs.Calls.{first_hit}
use Rattle.workbench.proofs.check_given.Goals as goal

pub returns-then-fits : goal.returns-then-fits
unfolding first_hit
returns-then-fits c = rw (c.if-fits.true, first_hit)

pub returns : goal.returns
unfolding first_hit
returns c = rw (c.if-fits.false, first_hit)
