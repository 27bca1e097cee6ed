-- `sheet::Sheet::refused` meets its contract.
use mathlib.Core.Path.{◌∙◌}
use Rattle.sheet.proofs.Calls.{wide_refused, wide_passed}
use Rattle.sheet.proofs.Sheet.refused.Goals as goal

pub returns-then-bad_side : goal.returns-then-bad_side
returns-then-bad_side c = c.if-bad_side.true ∙ wide_refused c.args.self _ c.bad_side.ensures c.if-bad_side.true

pub returns-else-bad_side : goal.returns-else-bad_side
returns-else-bad_side c = wide_passed c.args.self _ _ c.bad_side.ensures c.if-bad_side.false c.bad_side-else-bad_side.ensures
