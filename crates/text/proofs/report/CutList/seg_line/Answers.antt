-- `report::CutList::seg_line` meets its contract.
use Rattle.std.proofs.Common.{ap₂}
use Rattle.text.specs.Output.{pieces, point_at, seg_line}
use Rattle.text.proofs.Printing.{◌then◌, prints_as}
use Rattle.text.proofs.report.CutList.seg_line.Goals as goal

pub returns : goal.returns
unfolding seg_line
returns c =
    c.word.ensures
    then c.field.ensures
    then c.optional_at.ensures
    then c.optional_at-2.ensures
    then c.optional_at-3.ensures
    then c.optional_at-4.ensures
    then c.field_at.ensures
    then c.field_at-2.ensures
    then (prints_as (ap₂ (pieces (point_at _)) c.get-count.ensures c.get-first.ensures) c.pieces.ensures)
    then c.byte.ensures
