-- `write::put_step` meets its contract.
use Rattle.benches.specs.Listing.{step_words}
use Rattle.listing.proofs.write.put_step.Goals as goal

pub returns : goal.returns
unfolding step_words
returns c = rw c.code.ensures at c.put_all.ensures
