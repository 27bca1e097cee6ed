-- `report::count_line` meets its contract.
use Rattle.text.specs.Output.{count_line}
use Rattle.text.proofs.Printing.{◌then◌}
use Rattle.text.proofs.report.count_line.Goals as goal

pub returns : goal.returns
unfolding count_line
returns c =
    c.word.ensures
    then c.field.ensures
    then c.field-2.ensures
    then c.field-3.ensures
    then c.field-4.ensures
    then c.field-5.ensures
    then c.field-6.ensures
    then c.field-7.ensures
    then c.byte.ensures
