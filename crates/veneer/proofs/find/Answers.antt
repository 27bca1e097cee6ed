-- `find` meets its contract.
use mathlib.Core.Bool.{true}
use mathlib.Core.Path.{◌≡◌, refl, ap, ◌∙◌}
use Prim.Native.Nat.{◌+◌}
use native.Mathlib.Omega.{arith}
use Rattle.rules.specs.Picture.{dart, left, crack}
use Rattle.rules.specs.declared.Dir.TheVariants.{E}
use Rattle.rules.proofs.Contours.Counts.{or_one}
use Rattle.lattice.specs.Size.{pic}
use Rattle.lattice.proofs.Planes.{plane_low}
use Rattle.face.proofs.contours.Scanning.{few_contours, few_references}
use Rattle.face.proofs.contours.Finding.{east_left, east_crack, starts, few}
use Rattle.veneer.proofs.Finding.{unpainted, uncracked, known, beside_face, room, adding}
use Rattle.veneer.proofs.find.Goals.{then-s-l-via-then-s-l, then-s-l-via-else-s-l+then-not-crack, then-s-l-via-else-s-l+else-not-crack+then-work-slot-ne0}
use Rattle.veneer.proofs.find.Goals as goal

pub slot-requires : goal.slot-requires
slot-requires c =
    let M = c.requires.map in
    record { sides = record { wide = M.wide; high = M.high }; corner = c.requires.corner; low = omega (arith, c.requires.measuring.behind, plane_low c.args.s.width c.args.s.height M.wide M.high) }

pub returns-then-s-l : goal.returns-then-s-l
returns-then-s-l c =
    let lefts : left (pic c.args.s c.args.labels.now) (dart c.args.x c.args.y E) ≡ c.left-l.result.0 = east_left _ _ _ c.look-a.ensures c.left-l.ensures in
    elim c.then-s-l.branch [
      | then-s-l-via-then-s-l w ↦ unpainted c.requires.map c.requires.measuring (rw lefts w.if-s-l.true)
      | then-s-l-via-else-s-l+then-not-crack w ↦ uncracked c.requires.map c.requires.measuring (east_crack _ _ _ c.look-a.ensures w.crack.ensures ∙ w.if-not-crack.true)
      | then-s-l-via-else-s-l+else-not-crack+then-work-slot-ne0 w ↦ known c.requires.map c.requires.measuring c.requires.corner (rw w.slot.ensures.0 at w.if-work-slot-ne0.true)
    ]

pub contour-r-requires : goal.contour-r-requires
contour-r-requires c =
    let cracked : crack (pic c.args.s c.args.labels.now) (dart c.args.x c.args.y E) ≡ true = east_crack _ _ _ c.look-a.ensures c.crack.ensures ∙ c.if-not-crack.false in
    let lefts : left (pic c.args.s c.args.labels.now) (dart c.args.x c.args.y E) ≡ c.left-l.result.0 = east_left _ _ _ c.look-a.ensures c.left-l.ensures in
    record { starts = starts c.requires.map cracked lefts; room = c.requires.measuring.scan.room }

pub add_sum-requires : goal.add_sum-requires
add_sum-requires c =
    let M = c.requires.map in
    let o = c.requires.measuring in
    let cracked : crack (pic c.args.s c.args.labels.now) (dart c.args.x c.args.y E) ≡ true = east_crack _ _ _ c.look-a.ensures c.crack.ensures ∙ c.if-not-crack.false in
    let lefts : left (pic c.args.s c.args.labels.now) (dart c.args.x c.args.y E) ≡ c.left-l.result.0 = east_left _ _ _ c.look-a.ensures c.left-l.ensures in
    let blank = rw c.slot.ensures.0 at c.if-work-slot-ne0.false in
    let d = c.contour-r.ensures in
    record { sides = record { wide = M.wide; high = M.high }; flanked = beside_face M o cracked lefts c.if-s-l.false c.requires.corner blank d; fits = room M o cracked lefts c.if-s-l.false c.requires.corner blank d }

pub overflow_add-result : goal.overflow_add-result
overflow_add-result c = omega (arith, few_contours c.requires.measuring.scan c.requires.map)

pub overflow_add-result-2 : goal.overflow_add-result-2
overflow_add-result-2 c =
    let M = c.requires.map in
    let o = c.requires.measuring in
    let cracked : crack (pic c.args.s c.args.labels.now) (dart c.args.x c.args.y E) ≡ true = east_crack _ _ _ c.look-a.ensures c.crack.ensures ∙ c.if-not-crack.false in
    let lefts : left (pic c.args.s c.args.labels.now) (dart c.args.x c.args.y E) ≡ c.left-l.result.0 = east_left _ _ _ c.look-a.ensures c.left-l.ensures in
    omega (arith, few_references o.scan M, few M cracked lefts c.contour-r.ensures.looped c.references.ensures)

pub returns : goal.returns
returns c =
    let M = c.requires.map in
    let o = c.requires.measuring in
    let cracked : crack (pic c.args.s c.args.labels.now) (dart c.args.x c.args.y E) ≡ true = east_crack _ _ _ c.look-a.ensures c.crack.ensures ∙ c.if-not-crack.false in
    let lefts : left (pic c.args.s c.args.labels.now) (dart c.args.x c.args.y E) ≡ c.left-l.result.0 = east_left _ _ _ c.look-a.ensures c.left-l.ensures in
    let blank = rw c.slot.ensures.0 at c.if-work-slot-ne0.false in
    let d = c.contour-r.ensures in
    adding M o cracked lefts c.if-s-l.false c.requires.corner blank d c.add_sum.ensures refl
    (ap (λ q. c.args.f.references + q) (c.references.ensures ∙ ap or_one d.looped.nodes))
