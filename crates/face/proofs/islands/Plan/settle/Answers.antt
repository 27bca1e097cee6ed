-- `islands::Plan::settle` meets its contract.
use mathlib.Core.Path.{◌≡◌, refl, ◌∙◌}
use mathlib.Core.Bool.{◌&&◌}
use native.Mathlib.Omega.{arith}
use lib.Dec.{ltb, eqb}
use borrow.Author.Tests.{lt-ltb, le-ltb}
use Rattle.face.specs.Islands.{number}
use Rattle.face.proofs.Flags.{byte_one}
use Rattle.face.proofs.islands.Plan.settle.Goals.{then-label-paints, else-label-paints}
use Rattle.face.proofs.islands.Settling.{settle_inside, passed, taken}
use Rattle.face.proofs.islands.Plan.settle.Goals as goal

pub returns-then-label : goal.returns-then-label
returns-then-label c = passed c.requires _ c.read-label.ensures c.if-label.true

pub bounds-work-self-2 : goal.bounds-work-self-2
bounds-work-self-2 c =
    let u = c.requires in
    omega (arith, u.down (settle_inside u _ c.read-label.ensures c.if-label.false), u.within, u.sizes.room)

pub returns : goal.returns
returns c =
    let opens : c.if-label-paints.from ≡ ltb c.read-label.result c.args.paints && eqb (number c.args.self c.args.work.now c.args.q) c.args.q =
    elim c.if-label-paints.branch [
      | then-label-paints w ↦ w.from-is ∙ rw (lt-ltb _ _ w.if-label-paints.true) refl
      | else-label-paints w ↦ w.from-is ∙ rw (le-ltb _ _ w.if-label-paints.false) refl
    ] in
    taken c.requires _ c.read-label.ensures c.if-label.false refl refl (byte_one _ _ _ c.from.ensures opens)
