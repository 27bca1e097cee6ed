-- `report::CutList::cont_line` meets its contract.
use Rattle.std.proofs.Common.{ap, ap₂}
use Rattle.text.specs.Output.{pieces, reference_at, letter, cont_line}
use Rattle.text.proofs.Printing.{◌then◌, prints_as}
use Rattle.text.proofs.report.CutList.cont_line.Goals as goal

pub returns : goal.returns
unfolding cont_line
returns c =
    c.word.ensures
    then (prints_as (ap letter c.outlined.ensures) c.outline_or_hole.ensures)
    then (prints_as (ap₂ (pieces (reference_at _)) c.get-count.ensures c.get-first.ensures) c.pieces.ensures)
    then c.byte.ensures
