-- `mosaic::on_sheet::mosaic_move` meets its contract.
use Rattle.sheet.specs.Sheet.{sheet_with}
use Rattle.mosaic.specs.Moved.{mover_at}
use Rattle.mosaic.proofs.Moved.{move_told}
use Rattle.mosaic.proofs.on_sheet.mosaic_move.Goals as goal

pub returns : goal.returns
returns c =
    let a = c.args in
    move_told a.segments.now a.points.now (mover_at (sheet_with a.sheet_width a.sheet_height) a.width a.height a.count a.reversed a.at.now) c.step-step.result _ _ _
    c.step-step.ensures c.put_move.ensures
