-- What a printer does: a text is put into its buffer from its place on; the same buffer is lent still.
use Rattle.std.specs.Prelude.{◌≡◌, ℕ, List}
use Rattle.text.specs.Output.{Printed}
use Rattle.text.specs.declared.printer.Printer.{Printer}

pub record Prints (p : Printer) (text : List ℕ) (p' : Printer) : Type 0 where
  pub same_buffer : p'.out.ghost_name ≡ p.out.ghost_name
  pub printed : Printed p.out.now p.at text p'.out.now p'.at
