-- `pieces` prints one after the other.
use Rattle.std.proofs.Common.{arith}
use Rattle.text.proofs.Printing.{no_piece, piece_more}
use Rattle.text.proofs.printer.Printer.pieces.Goals as goal

pub loop-i-init : goal.loop-i-init
loop-i-init g c = no_piece _ _ _

pub loop-i-preserved : goal.loop-i-preserved
loop-i-preserved g c = piece_more g.piece _ _ c.loop-i.invariant (c.requires.1.1 _ _ _ (omega arith) (omega (arith, c.ranges.count.fits)) c.print.ensures)
