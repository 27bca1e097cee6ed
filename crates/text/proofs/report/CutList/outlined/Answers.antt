-- `report::CutList::outlined` meets its contract.
use Rattle.std.proofs.Common.{ltb, ap₂}
use Rattle.text.specs.Mark.{outlined}
use Rattle.text.proofs.report.CutList.outlined.Goals as goal

pub returns : goal.returns
unfolding outlined
returns c = ap₂ ltb c.contour_east-west.ensures c.contour_east-east.ensures
