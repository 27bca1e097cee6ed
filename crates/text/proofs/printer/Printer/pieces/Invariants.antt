-- The loop of `pieces`: those before i are printed.
use Rattle.text.specs.Output.{pieces}
use Rattle.text.specs.Prints.{Prints}
use Rattle.text.proofs.printer.Printer.pieces.Given as goal

abbrev pub invariant-loop-i : goal.invariant-loop-i
invariant-loop-i g l = Prints l.initial.self (pieces g.piece l.i l.first) l.self
