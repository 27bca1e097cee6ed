-- The recursion of `number`: its measure, the number, which loses its last digit.
use Rattle.text.proofs.printer.Printer.+number.Given as goal

abbrev pub decreases-number : goal.decreases-number
decreases-number l = l.n
