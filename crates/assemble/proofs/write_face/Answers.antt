-- `assemble::write_face` meets its contract.
use Rattle.assemble.proofs.FaceRecords.{face_written}
use mathlib.Core.Path.{refl, ◌∙◌}
use Rattle.assemble.proofs.write_face.Goals as goal

pub returns : goal.returns
returns c =
    face_written c.requires c.get-pixel.ensures (c.named-first.ensures.0 ∙ c.get.ensures) c.write_contours-d.ensures c.get-2.ensures refl refl refl c.put_face.ensures
