-- `report::CutList::node_line` meets its contract.
use Rattle.text.specs.Output.{node_line}
use Rattle.text.proofs.Printing.{◌then◌}
use Rattle.text.proofs.report.CutList.node_line.Goals as goal

pub returns : goal.returns
unfolding node_line
returns c =
    c.word.ensures
    then c.field.ensures
    then c.field_at.ensures
    then c.field_at-2.ensures
    then c.reference_at.ensures
    then c.reference_at-2.ensures
    then c.reference_at-3.ensures
    then c.reference_at-4.ensures
    then c.byte.ensures
