-- `sheet::Sheet::down` meets its contract.
use Rattle.sheet.proofs.Stays.{fit_high}
use Rattle.sheet.proofs.Sheet.down.Goals as goal

pub returns : goal.returns
returns c = record { value = c.along.ensures.value; on_sheet = λ u h. c.along.ensures.on_side (fit_high c.args.self u) h }
