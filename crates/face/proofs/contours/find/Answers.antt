-- `contours::find` meets its contract.
use mathlib.Core.Bool.{true}
use mathlib.Core.Path.{◌≡◌, refl, ◌∙◌}
use native.Mathlib.Omega.{arith}
use Rattle.rules.specs.Picture.{dart, left, crack}
use Rattle.rules.specs.declared.Dir.TheVariants.{E}
use Rattle.lattice.specs.Size.{pic}
use Rattle.face.proofs.contours.Scanning.{few_contours, few_references}
use Rattle.face.proofs.contours.Finding.{east_left, east_crack, unpainted, uncracked, known, starts, few, added}
use Rattle.face.proofs.contours.find.Goals.{then-s-l-via-then-s-l, then-s-l-via-else-s-l+then-not-crack, then-s-l-via-else-s-l+else-not-crack+then-work-slot-ne0}
use Rattle.face.proofs.contours.find.Goals as goal

pub returns-then-s-l : goal.returns-then-s-l
returns-then-s-l c =
    let its_left : left (pic c.args.s c.args.labels.now) (dart c.args.x c.args.y E) ≡ c.left-l.result.0 = east_left _ _ _ c.look-a.ensures c.left-l.ensures in
    elim c.then-s-l.branch [
      | then-s-l-via-then-s-l w ↦ unpainted c.requires.scan (rw its_left w.if-s-l.true)
      | then-s-l-via-else-s-l+then-not-crack w ↦ uncracked c.requires.scan (east_crack _ _ _ c.look-a.ensures w.crack.ensures ∙ w.if-not-crack.true)
      | then-s-l-via-else-s-l+else-not-crack+then-work-slot-ne0 w ↦ known c.requires.scan c.requires.corner (rw w.slot.ensures.0 at w.if-work-slot-ne0.true)
    ]

pub contour-n-requires : goal.contour-n-requires
contour-n-requires c =
    let its_left : left (pic c.args.s c.args.labels.now) (dart c.args.x c.args.y E) ≡ c.left-l.result.0 = east_left _ _ _ c.look-a.ensures c.left-l.ensures in
    let its_crack : crack (pic c.args.s c.args.labels.now) (dart c.args.x c.args.y E) ≡ true = east_crack _ _ _ c.look-a.ensures c.crack.ensures ∙ c.if-not-crack.false in
    record { starts = starts c.requires.map its_crack its_left; room = c.requires.scan.room }

pub overflow_add-result : goal.overflow_add-result
overflow_add-result c = omega (arith, few_contours c.requires.scan c.requires.map)

pub overflow_add-result-2 : goal.overflow_add-result-2
overflow_add-result-2 c =
    let its_left : left (pic c.args.s c.args.labels.now) (dart c.args.x c.args.y E) ≡ c.left-l.result.0 = east_left _ _ _ c.look-a.ensures c.left-l.ensures in
    let its_crack : crack (pic c.args.s c.args.labels.now) (dart c.args.x c.args.y E) ≡ true = east_crack _ _ _ c.look-a.ensures c.crack.ensures ∙ c.if-not-crack.false in
    omega (arith, few_references c.requires.scan c.requires.map, few c.requires.map its_crack its_left c.contour-n.ensures c.references.ensures)

pub returns : goal.returns
returns c =
    let its_left : left (pic c.args.s c.args.labels.now) (dart c.args.x c.args.y E) ≡ c.left-l.result.0 = east_left _ _ _ c.look-a.ensures c.left-l.ensures in
    let its_crack : crack (pic c.args.s c.args.labels.now) (dart c.args.x c.args.y E) ≡ true = east_crack _ _ _ c.look-a.ensures c.crack.ensures ∙ c.if-not-crack.false in
    added c.requires.map its_crack its_left c.contour-n.ensures c.references.ensures c.requires.scan c.if-s-l.false c.requires.corner
    (rw c.slot.ensures.0 at c.if-work-slot-ne0.false) refl refl
