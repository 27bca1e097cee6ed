-- `report::CutList::segment_east` meets its contract.
use Rattle.std.proofs.Common.{rules, arith, ℕ, ◌-◌, ap, ◌∙◌, ap₂}
use Rattle.text.specs.Mark.{summed, step_east, segment_east}
use Rattle.text.proofs.Lent.{of_list_and}
use Rattle.text.proofs.report.CutList.segment_east.Goals as goal

pub returns : goal.returns
unfolding segment_east
returns c = c.summed.ensures ∙ ap₂ (summed (step_east _ _)) (c.saturating_sub.ensures ∙ ap (λ (k : ℕ). k - 1) c.get-count.ensures) c.get-first.ensures

pub summed-requires : goal.summed-requires
summed-requires c κs within = (of_list_and _ _ _ within.0 within.1.0 _ within.1.1.0, (λ i h k κ r e x l. omega (arith, c.get-first.type_inv), λ i v h k e. search rules))
