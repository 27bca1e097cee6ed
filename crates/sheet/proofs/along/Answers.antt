-- `sheet::along` meets its contract.
use Rattle.sheet.proofs.Within.{is_end, is_before, on_side}
use Rattle.sheet.proofs.along.Goals as goal

pub returns-then-n-count : goal.returns-then-n-count
returns-then-n-count c =
    let r = on_side c.args.n c.args.count c.args.side c.ranges.count.fits c.well_formed.1.1.0.1 _ (is_end _ _ _ c.if-n-count.true) in
    record { value = r.0; on_side = r.1 }

pub returns : goal.returns
returns c =
    let r = on_side c.args.n c.args.count c.args.side c.ranges.count.fits c.well_formed.1.1.0.1 _ (is_before _ _ _ c.if-n-count.false) in
    record { value = r.0; on_side = r.1 }
