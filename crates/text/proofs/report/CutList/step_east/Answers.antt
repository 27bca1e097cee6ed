-- `report::CutList::step_east` meets its contract.
use Rattle.text.specs.Mark.{step_east}
use Rattle.text.proofs.report.CutList.step_east.Goals as goal

pub returns-then-back : goal.returns-then-back
unfolding step_east
returns-then-back c = rw c.if-back.true c.eastward.ensures

pub returns : goal.returns
unfolding step_east
returns c = rw c.if-back.false c.eastward-2.ensures
