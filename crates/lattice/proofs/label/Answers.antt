-- `lattice::label` meets its contract.
use Rattle.std.proofs.Common.{◌∙◌, arith}
use Rattle.lattice.proofs.Laws.{inside, label_in_lem, label_right, label_below}
use Rattle.lattice.proofs.label.Goals.{else-x-s-via-then-x-s+else-y-s, else-x-s-via-else-x-s}
use Rattle.lattice.proofs.label.Goals as goal

pub offset_bounds-labels-i : goal.offset_bounds-labels-i
offset_bounds-labels-i c =
    let a = c.args in
    omega (arith, inside a.s.width a.s.height a.x a.y (omega arith) (omega arith))

pub bounds-labels-i : goal.bounds-labels-i
bounds-labels-i c =
    let a = c.args in
    omega (arith, inside a.s.width a.s.height a.x a.y (omega arith) (omega arith))

pub returns-then-y-s : goal.returns-then-y-s
returns-then-y-s c =
    let a = c.args in
    c.seen.ensures
    ∙ label_in_lem a.s.width a.s.height a.s.bound a.labels.now a.x a.y c.cell-i.result
    (omega arith) (omega arith) (omega arith) (omega (arith, inside a.s.width a.s.height a.x a.y (omega arith) (omega arith)))

pub returns : goal.returns
returns c = elim c.else-x-s.branch [
  | else-x-s-via-then-x-s+else-y-s w ↦ label_below _ _ _ _ _ _ (omega (arith, w.if-y-s.false))
  | else-x-s-via-else-x-s w ↦ label_right _ _ _ _ _ _ (omega (arith, w.if-x-s.false))
]
