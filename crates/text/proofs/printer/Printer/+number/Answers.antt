-- What `number` prints: the digits before the last one, if there are some, and the last one.
use Rattle.text.proofs.Printing.{number_long, number_short}
use Rattle.text.proofs.printer.Printer.+number.Goals as goal
use Rattle.text.proofs.printer.Printer.+number.Goals.{then-n-ge10, else-n-ge10}

pub returns : goal.returns
returns t c =
    elim c.if-n-ge10.branch [
      | then-n-ge10 w ↦ number_long c.args.n w.if-n-ge10.true (rw (← w.self-is) at w.number.ensures) c.byte.ensures
      | else-n-ge10 w ↦ number_short c.args.n w.if-n-ge10.false (rw w.self-is at c.byte.ensures)
    ]
