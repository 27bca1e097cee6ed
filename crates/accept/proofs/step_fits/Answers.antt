-- `accept::step_fits` meets its contract.
use mathlib.Core.Bool.{true≢false}
use mathlib.Core.Path.{refl, sym, ◌∙◌}
use Rattle.accept.proofs.Stepping.{say_no, say_yes, off, no_crack, edge, ahead, blocks, elsewhere, walked, all_fits, marks}
use Rattle.accept.proofs.step_fits.Goals as goal
use Rattle.accept.proofs.step_fits.Goals.{else-inner-via-then-inner+else-node, else-inner-via-else-inner}

pub returns-then-not-in_frame : goal.returns-then-not-in_frame
returns-then-not-in_frame c = (say_no (off c.requires.map _ _ _ _ _ c.step-w.ensures (c.in_frame.ensures.no c.if-not-in_frame.true)), refl)

pub returns-then-not-crack : goal.returns-then-not-crack
returns-then-not-crack c = (say_no (no_crack c.requires.map _ _ _ _ _ c.step-w.ensures _ c.look-a.ensures (sym c.crack.ensures ∙ c.if-not-crack.true)), refl)

pub returns-then-node : goal.returns-then-node
returns-then-node c = (say_no (blocks c.requires.map _ _ _ _ _ c.step-w.ensures _ c.look-a.ensures c.if-inner.true (sym c.node.ensures ∙ c.if-node.true)), refl)

pub moved-m-requires : goal.moved-m-requires
moved-m-requires c = ahead c.requires.map c.args.points.now c.args.work.now c.args.j c.args.inner _ c.step-w.ensures _ c.look-a.ensures (sym c.crack.ensures ∙ c.if-not-crack.false)

pub returns-then-not-is_corner : goal.returns-then-not-is_corner
returns-then-not-is_corner c = (say_no (elsewhere c.requires.map _ _ _ _ _ c.step-w.ensures _ c.look-a.ensures _ c.moved-m.ensures (c.is_corner.ensures.no c.if-not-is_corner.true)), refl)

pub is_visited-requires-clause-edge : goal.is_visited-requires-clause-edge
is_visited-requires-clause-edge c = edge c.requires.map c.args.points.now c.args.work.now c.args.j c.args.inner _ c.step-w.ensures _ c.look-a.ensures (sym c.crack.ensures ∙ c.if-not-crack.false)

pub returns-then-is_visited : goal.returns-then-is_visited
returns-then-is_visited c = (say_no (walked c.requires.map _ _ _ _ _ c.step-w.ensures _ c.look-a.ensures _ c.moved-m.ensures (sym c.is_visited.ensures ∙ c.if-is_visited.true)), refl)

pub mark_visited-requires-clause-edge : goal.mark_visited-requires-clause-edge
mark_visited-requires-clause-edge c = edge c.requires.map c.args.points.now c.args.work.now c.args.j c.args.inner _ c.step-w.ensures _ c.look-a.ensures (sym c.crack.ensures ∙ c.if-not-crack.false)

pub returns : goal.returns
returns c = (
  say_yes (all_fits c.requires.map _ _ _ _ _ c.step-w.ensures _ c.look-a.ensures _ c.moved-m.ensures (sym c.crack.ensures ∙ c.if-not-crack.false) (elim c.else-inner.branch [
    | else-inner-via-then-inner+else-node w ↦ (λ _. sym w.node.ensures ∙ w.if-node.false)
    | else-inner-via-else-inner w ↦ (λ i. absurd (true≢false (sym i ∙ w.if-inner.false)))
  ]) (c.is_corner.ensures.yes c.if-not-is_corner.false) (sym c.is_visited.ensures ∙ c.if-is_visited.false)),
  marks c.requires.map c.args.points.now c.args.work.now c.args.j c.args.inner _ c.step-w.ensures _ c.look-a.ensures c.mark_visited.ensures,
)
