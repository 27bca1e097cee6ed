-- `PairTable::touch` meets its contract.
use Rattle.merge.proofs.Noting.{noted_none, touch_same, touch_first, touch_second, touch_two}
use Rattle.merge.proofs.PairTable.touch.Goals as goal
use Rattle.merge.proofs.PairTable.touch.Goals.{then-a-eq-OUTSIDE-via-then-a-eq-OUTSIDE, then-a-eq-OUTSIDE-via-else-a-eq-OUTSIDE+then-b-eq-OUTSIDE, then-a-eq-OUTSIDE-via-else-a-eq-OUTSIDE+else-b-eq-OUTSIDE+then-a-b}

pub returns-then-a-eq-OUTSIDE : goal.returns-then-a-eq-OUTSIDE
returns-then-a-eq-OUTSIDE c = noted_none _ _ _ _ (elim c.then-a-eq-OUTSIDE.branch [
  | then-a-eq-OUTSIDE-via-then-a-eq-OUTSIDE w ↦ touch_first _ _ w.if-a-eq-OUTSIDE.true
  | then-a-eq-OUTSIDE-via-else-a-eq-OUTSIDE+then-b-eq-OUTSIDE w ↦ touch_second _ _ w.if-b-eq-OUTSIDE.true
  | then-a-eq-OUTSIDE-via-else-a-eq-OUTSIDE+else-b-eq-OUTSIDE+then-a-b w ↦ touch_same _ _ w.if-a-b.true
])

pub returns : goal.returns
returns c = rw (touch_two _ _ c.if-a-eq-OUTSIDE.false c.if-b-eq-OUTSIDE.false c.if-a-b.false, ← c.min.ensures, ← c.max.ensures) c.note.ensures
