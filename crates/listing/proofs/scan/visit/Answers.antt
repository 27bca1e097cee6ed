-- `scan::visit` meets its contract.
use Prim.Native.Nat.{◌<◌}
use mathlib.Core.Path.{◌≡◌, sym, ap, ◌∙◌}
use mathlib.Core.Bool.{true}
use native.Mathlib.Omega.{arith}
use lib.ListN.{get_or}
use Rattle.rules.specs.Picture.{left, crack}
use Rattle.lattice.specs.Size.{pic}
use Rattle.lattice.specs.Walker.{dart_of}
use Rattle.listing.proofs.Finding.{left_of_lem, crack_of, found_room, side_flanked, head_read, unpainted, uncracked, known, unnamed, added}
use Rattle.listing.proofs.scan.visit.Goals.{then-s-l-via-then-s-l, then-s-l-via-else-s-l+then-not-crack, then-s-l-via-else-s-l+else-not-crack+then-work-mark_at-ne0}
use Rattle.listing.proofs.scan.visit.Goals as goal

pub returns-then-s-l : goal.returns-then-s-l
returns-then-s-l c =
    let its_left : left (pic c.args.s c.args.labels.now) (dart_of c.args.w) ≡ c.left-l.result.0 = left_of_lem _ c.args.w c.look-a.ensures c.left-l.ensures in
    λ b' n names work₀ r f. elim c.then-s-l.branch [
      | then-s-l-via-then-s-l w ↦ unpainted r c.args.w f b' n (rw its_left w.if-s-l.true)
      | then-s-l-via-else-s-l+then-not-crack w ↦ uncracked r c.args.w f b' n (crack_of _ c.args.w c.look-a.ensures w.crack.ensures ∙ w.if-not-crack.true)
      | then-s-l-via-else-s-l+else-not-crack+then-work-mark_at-ne0 w ↦
          known r c.args.w f b' n c.requires.forth.corner (λ z. w.if-work-mark_at-ne0.true (ap (λ i. get_or c.args.work.now i 0) w.mark_at.ensures.0 ∙ z))
    ]

pub island-f-requires : goal.island-f-requires
island-f-requires c =
    let its_left : left (pic c.args.s c.args.labels.now) (dart_of c.args.w) ≡ c.left-l.result.0 = left_of_lem _ c.args.w c.look-a.ensures c.left-l.ensures in
    let its_crack : crack (pic c.args.s c.args.labels.now) (dart_of c.args.w) ≡ true = crack_of _ c.args.w c.look-a.ensures c.crack.ensures ∙ c.if-not-crack.false in
    let its_paint : left (pic c.args.s c.args.labels.now) (dart_of c.args.w) < c.args.s.paints = omega (arith, its_left, c.if-s-l.false) in
    let r = c.requires.due.ready in
    record { sides = record { wide = r.map.wide; high = r.map.high }; flanked = side_flanked r c.args.w its_crack its_paint }

pub returns-then-get : goal.returns-then-get
returns-then-get c =
    let its_left : left (pic c.args.s c.args.labels.now) (dart_of c.args.w) ≡ c.left-l.result.0 = left_of_lem _ c.args.w c.look-a.ensures c.left-l.ensures in
    let its_crack : crack (pic c.args.s c.args.labels.now) (dart_of c.args.w) ≡ true = crack_of _ c.args.w c.look-a.ensures c.crack.ensures ∙ c.if-not-crack.false in
    let its_paint : left (pic c.args.s c.args.labels.now) (dart_of c.args.w) < c.args.s.paints = omega (arith, its_left, c.if-s-l.false) in
    λ b' n names work₀ r f.
    let w = c.args.w in
    unnamed r w f b' n its_crack its_paint
    (sym (head_read r w its_crack its_paint f.kept c.plane-plane.ensures.0 c.island-f.ensures c.get.ensures) ∙ c.if-get.true)

pub mark_contour-requires : goal.mark_contour-requires
mark_contour-requires c =
    let its_left : left (pic c.args.s c.args.labels.now) (dart_of c.args.w) ≡ c.left-l.result.0 = left_of_lem _ c.args.w c.look-a.ensures c.left-l.ensures in
    let its_crack : crack (pic c.args.s c.args.labels.now) (dart_of c.args.w) ≡ true = crack_of _ c.args.w c.look-a.ensures c.crack.ensures ∙ c.if-not-crack.false in
    let u = c.requires.due in
    record { starts = record { map = u.ready.map; crack = its_crack; left = its_left }; room = omega (arith, u.ready.room, u.finding.kept.long) }

pub overflow_add-plane-2 : goal.overflow_add-plane-2
overflow_add-plane-2 c =
    let u = c.requires.due in
    let p = c.plane-plane.ensures in
    omega (arith, p.0, p.1, found_room u.ready u.finding.found, u.finding.count)

pub overflow_add-result : goal.overflow_add-result
overflow_add-result c =
    let u = c.requires.due in
    let p = c.plane-plane.ensures in
    omega (arith, p.0, p.1, found_room u.ready u.finding.found, u.finding.count)

pub returns : goal.returns
returns c =
    let its_left : left (pic c.args.s c.args.labels.now) (dart_of c.args.w) ≡ c.left-l.result.0 = left_of_lem _ c.args.w c.look-a.ensures c.left-l.ensures in
    let its_crack : crack (pic c.args.s c.args.labels.now) (dart_of c.args.w) ≡ true = crack_of _ c.args.w c.look-a.ensures c.crack.ensures ∙ c.if-not-crack.false in
    let its_paint : left (pic c.args.s c.args.labels.now) (dart_of c.args.w) < c.args.s.paints = omega (arith, its_left, c.if-s-l.false) in
    λ b' n names work₀ r f.
    let a = c.args in
    let pl = c.plane-plane.ensures.0 in
    added r a.w f b' n c.requires.forth.way its_crack its_paint
    (ap (λ i. get_or a.work.now i 0) (sym c.mark_at.ensures.0) ∙ c.if-work-mark_at-ne0.false)
    (λ z. c.if-get.false (head_read r a.w its_crack its_paint f.kept pl c.island-f.ensures c.get.ensures ∙ z))
    c.mark_contour.ensures (rw (pl, c.encode.ensures) at c.put.ensures)
