-- `assemble::write_faces` meets its contract.
use Rattle.assemble.proofs.FaceRecords.{none_written, due, one_more, all_written}
use native.Mathlib.Numerals.{add-one}
use Rattle.assemble.proofs.write_faces.Goals as goal

pub loop-f-init : goal.loop-f-init
loop-f-init c = λ fs o. none_written _ _ _ _

pub write_face-done-requires : goal.write_face-done-requires
write_face-done-requires c =
    let u = c.requires in
    due u.ordered c.loop-f-test.true (c.loop-f.invariant u.fs u.ordered)

pub loop-f-preserved : goal.loop-f-preserved
loop-f-preserved c =
    rw add-one (λ fs o. one_more o c.loop-f-test.true (c.loop-f.invariant fs o) c.write_face-done.ensures)

pub returns : goal.returns
returns c = λ fs o. all_written o c.loop-f-test.false (c.loop-f.invariant fs o)
