-- `report::CutList::face_lines` meets its contract.
use Rattle.std.proofs.Common.{rules, arith, ap₂}
use Rattle.text.specs.Output.{pieces, cont_line, face_lines}
use Rattle.text.proofs.Printing.{◌then◌, prints_as}
use Rattle.text.proofs.Lent.{of_list}
use Rattle.text.proofs.report.CutList.face_lines.Goals as goal

pub returns : goal.returns
unfolding face_lines
returns c =
    c.word.ensures
    then c.field.ensures
    then c.field_at.ensures
    then c.field_at-2.ensures
    then c.field_at-3.ensures
    then c.field_at-4.ensures
    then c.byte.ensures
    then (prints_as (ap₂ (pieces (cont_line _ _ _ _)) c.get-count.ensures c.get-first.ensures) c.pieces.ensures)

pub pieces-requires : goal.pieces-requires
pieces-requires c κs within = (of_list _ _ _ within.0 within.1.0, (λ p i h k κ r e f x y l. omega (arith, c.get-first.type_inv), λ p i q h k e. search rules))
