-- `report::CutList::print_report` meets its contract.
use Rattle.std.proofs.Common.{rules}
use Rattle.text.specs.Output.{report}
use Rattle.text.proofs.Printing.{◌then◌, finished}
use Rattle.text.proofs.Lent.{of_list}
use Rattle.text.proofs.report.CutList.print_report.Goals as goal

pub returns : goal.returns
unfolding report
returns c =
    let w = c.map_line.ensures then c.count_line.ensures then c.pieces.ensures then c.pieces-2.ensures then c.pieces-3.ensures in
    finished c.new-printer.ensures.held c.new-printer.ensures.first_place (search rules) w

pub pieces-requires : goal.pieces-requires
pieces-requires c κs within = (of_list _ _ _ within.0 within.1.0, (λ p i h k κ r e f x y l m n. k, λ p i q h k e. search rules))

pub pieces-requires-2 : goal.pieces-requires-2
pieces-requires-2 c κs within = (of_list _ _ _ within.0 within.1.0, (λ p i h k κ r e f x y l m n. k, λ p i q h k e. search rules))

pub pieces-requires-3 : goal.pieces-requires-3
pieces-requires-3 c κs within = (of_list _ _ _ within.0 within.1.0, (λ p i h k κ r e f x y l m n. k, λ p i q h k e. search rules))
