-- `sheet::Sheet::across` meets its contract.
use Rattle.sheet.proofs.Stays.{fit_wide}
use Rattle.sheet.proofs.Sheet.across.Goals as goal

pub returns : goal.returns
returns c = record { value = c.along.ensures.value; on_sheet = λ u h. c.along.ensures.on_side (fit_wide c.args.self u) h }
