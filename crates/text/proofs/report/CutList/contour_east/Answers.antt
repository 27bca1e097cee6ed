-- `report::CutList::contour_east` meets its contract.
use Rattle.std.proofs.Common.{rules, ◌∙◌, ap₂}
use Rattle.text.specs.Mark.{summed, reference_east, contour_east}
use Rattle.text.proofs.Lent.{of_list_and}
use Rattle.std.proofs.Common.{of_calls}
use Rattle.text.proofs.report.CutList.contour_east.Goals as goal

pub returns : goal.returns
unfolding contour_east
returns c = c.summed.ensures ∙ ap₂ (summed (reference_east _ _ _ _)) c.get-n.ensures c.get-first.ensures

pub summed-requires : goal.summed-requires
summed-requires c κs within = (of_list_and _ _ _ within.0 within.1.0 _ within.1.1.0, (search rules, λ i v h k e. search (rules, of_calls)))
