-- The loop of `word`: the bytes passed are printed.
use Rattle.std.proofs.Common.{take}
use Rattle.text.specs.Prints.{Prints}
use Rattle.text.proofs.printer.Printer.word.Given as goal

abbrev pub invariant-loop-b : goal.invariant-loop-b
invariant-loop-b l = Prints l.initial.self (take l.b-index l.word) l.self
