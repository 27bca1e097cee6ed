-- `mosaic::on_sheet::mosaic_sheet_whole` meets its contract.
use Prim.Native.Nat.{ℕ}
use mathlib.Core.Path.{◌≡◌, ap, ◌∙◌}
use native.Mathlib.Omega.{arith}
use lib.ListN.{get_or}
use Rattle.std.specs.Prelude.{Result, Ok, Err, IfOk}
use Rattle.calls.specs.declared.Counts.{Counts}
use Rattle.calls.specs.declared.Refused.{Refused}
use Rattle.calls.specs.Outcome.{map_of, answer_of, answer_words}
use Rattle.calls.proofs.Refusals.{positive}
use Rattle.sheet.specs.Call.{whole_on_sheet}
use Rattle.sheet.specs.Sheet.{sheet_with}
use Rattle.sheet.specs.Within.{NoMoveLeaves}
use Rattle.mosaic.proofs.on_sheet.mosaic_sheet_whole.Goals as goal

-- what holds of the counts holds of the words of an answer that is no refusal
in_words : (r : Result Counts Refused) (P : ℕ → Type 0) → IfOk r (λ c. P c.segments) → get_or (answer_words (answer_of r)) 0 0 ≡ 0 → P (get_or (answer_words (answer_of r)) 2 0)
in_words (Ok c) P h z = h
in_words (Err x) P h z = absurd (let n = positive x.why in omega (arith, n, z))

pub returns-clause-faces_after : goal.returns-clause-faces_after
returns-clause-faces_after c =
    let a = c.args in
    rw c.words.ensures
    (c.whole_on_sheet.ensures.faces_after ∙ ap (λ s. whole_on_sheet (sheet_with a.sheet_width a.sheet_height) (map_of s a.labels.now) a.work.now a.nodes.now a.segments.now a.points.now a.references.now a.contours.now a.faces.now) c.sized-s.ensures)

pub returns-clause-on_sheet : goal.returns-clause-on_sheet
returns-clause-on_sheet c =
    let a = c.args in
    let P : ℕ → Type 0 = λ n. NoMoveLeaves (sheet_with a.sheet_width a.sheet_height) a.width a.height n c.whole_on_sheet.new.segments c.whole_on_sheet.new.points in
    rw c.words.ensures (in_words c.whole_on_sheet.result P (rw c.sized-s.ensures at c.whole_on_sheet.ensures.on_sheet))
