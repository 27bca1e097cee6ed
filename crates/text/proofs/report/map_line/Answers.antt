-- `report::map_line` meets its contract.
use Rattle.text.specs.Output.{map_line}
use Rattle.text.proofs.Printing.{◌then◌}
use Rattle.text.proofs.report.map_line.Goals as goal

pub returns : goal.returns
unfolding map_line
returns c =
    c.word.ensures
    then c.field.ensures
    then c.field-2.ensures
    then c.field-3.ensures
    then c.byte.ensures
