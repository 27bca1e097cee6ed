-- `print_map` meets its contract.
use Rattle.std.proofs.Common.{arith}
use Rattle.calls.specs.Outcome.{map_of}
use Rattle.text.proofs.Printing.{printed_as}
use Rattle.text.proofs.Room.{Small}
use Rattle.text.proofs.Answers.{fits, map_printed}
use Rattle.text.proofs.print_map.Goals as goal

pub unwrap-counts-requires : goal.unwrap-counts-requires
unwrap-counts-requires c =
    let a = c.args in
    let small : Small (map_of a.s a.labels.now) = record { narrow = c.requires.0; low = c.requires.1; size = c.requires.2; word = omega (arith, c.well_formed) } in
    fits small c.whole.result c.whole.ensures

pub returns : goal.returns
returns c =
    let a = c.args in
    let small : Small (map_of a.s a.labels.now) = record { narrow = c.requires.0; low = c.requires.1; size = c.requires.2; word = omega (arith, c.well_formed) } in
    printed_as (map_printed small c.whole.result c.whole.ensures _ c.unwrap-counts.ensures) c.print_report.ensures
