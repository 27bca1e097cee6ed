-- `jobs::salvage::words` meets its contract.
use Rattle.jobs.proofs.Bodies.{words_div}
use Rattle.jobs.proofs.salvage.words.Goals as goal

pub returns : goal.returns
returns c = words_div c.args.body.now
