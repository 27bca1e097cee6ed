-- `word` prints each byte.
use Rattle.text.proofs.Printing.{byte_more}
use Rattle.text.proofs.printer.Printer.word.Goals as goal

pub loop-b-preserved : goal.loop-b-preserved
loop-b-preserved c = byte_more _ _ c.loop-b-test.true c.loop-b.invariant c.byte.ensures
