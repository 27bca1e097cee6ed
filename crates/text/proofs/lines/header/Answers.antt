-- `lines::header` meets its contract.
use Rattle.std.proofs.Common.{refl}
use Rattle.text.proofs.Entries.{header_1, header_2, header_3, header_good}
use Rattle.text.proofs.lines.header.Goals as goal

pub returns-in_err-width : goal.returns-in_err-width
returns-in_err-width c = rw c.from_residual.ensures (header_1 c.args.text.now c.in_err-width.ensures)

pub returns-in_err-height : goal.returns-in_err-height
returns-in_err-height c =
    rw c.from_residual-in_err-height.ensures (header_2 c.args.text.now _ _ c.in_ok-width.ensures.0 c.in_err-height.ensures)

pub returns-in_err-paints : goal.returns-in_err-paints
returns-in_err-paints c =
    rw c.from_residual-in_err-paints.ensures (header_3 c.args.text.now _ _ c.in_ok-width.ensures.0 _ _ c.in_ok-height.ensures.0 c.in_err-paints.ensures)

pub returns : goal.returns
returns c =
    let s = c.args.text.now in
    let h = c.in_ok-paints.ensures in
    (header_good s _ _ c.in_ok-width.ensures.0 _ _ c.in_ok-height.ensures.0 _ _ h.0, refl, h.1)
