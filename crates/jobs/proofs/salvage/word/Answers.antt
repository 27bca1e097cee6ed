-- `jobs::salvage::word` meets its contract.
use mathlib.Core.Path.{◌∙◌}
use native.Mathlib.Omega.{arith}
use Rattle.jobs.proofs.Bodies.{words_many, word_is}
use Rattle.jobs.proofs.salvage.word.Goals as goal

pub overflow_mul-i : goal.overflow_mul-i
overflow_mul-i c = let n = words_many c.args.body.now in omega (arith, c.requires, c.well_formed)

pub word_at-requires : goal.word_at-requires
word_at-requires c = let n = words_many c.args.body.now in omega (arith, c.requires)

pub returns : goal.returns
returns c = c.word_at.ensures ∙ word_is c.args.body.now c.args.i c.requires
