-- `print_line` meets its contract.
use Rattle.std.proofs.Common.{rules, ap, [], ◌∷◌, ◌++◌, List}
use Prim.Native.Nat.{ℕ}
use Rattle.text.proofs.Printing.{◌then◌, prints_as, finished}
use Rattle.text.proofs.print_line.Goals as goal

pub returns : goal.returns
returns c =
    let w = prints_as (ap (λ (m : List ℕ). m ++ (10 ∷ [])) c.as_bytes.ensures.value) (c.word.ensures then c.byte.ensures) in
    finished c.new-printer.ensures.held c.new-printer.ensures.first_place (search rules) w
