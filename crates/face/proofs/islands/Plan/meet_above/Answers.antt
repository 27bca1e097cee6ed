-- `islands::Plan::meet_above` meets its contract.
use mathlib.Core.Path.{sym, ◌∙◌}
use Rattle.face.proofs.islands.Neighbours.{met_leaf, north_before, north_over, north_above, left_asks, left_met, right_asks, right_met, above_equal, above_apart}
use Rattle.face.proofs.islands.Plan.meet_above.Goals as goal

pub join-requires-clause-before : goal.join-requires-clause-before
join-requires-clause-before c = rw c.in-Some.ensures.1 (north_before c.requires c.in-Some.ensures.0)

pub returns-then-read : goal.returns-then-read
returns-then-read c =
    let e = c.in-Some.ensures.1 in
    above_equal c.requires c.in-Some.ensures.0 (rw e at (sym c.read.ensures ∙ c.if-read.true ∙ c.read-2.ensures)) (rw e at c.join.ensures)

pub meet-requires-clause-before : goal.meet-requires-clause-before
meet-requires-clause-before c =
    λ r q. left_asks c.requires.leaf (north_over c.requires c.in-Some.ensures.0) r (rw c.in-Some.ensures.1 at (sym c.left.ensures ∙ q))

pub meet-requires-2-clause-before : goal.meet-requires-2-clause-before
meet-requires-2-clause-before c =
    let k = c.in-Some.ensures.0 in
    let l = met_leaf c.requires.leaf c.meet.ensures in
    λ r q. right_asks l (north_over c.requires k) (north_above c.requires k) r (rw c.in-Some.ensures.1 at (sym c.right.ensures ∙ q))

pub returns : goal.returns
returns c =
    let k = c.in-Some.ensures.0 in
    let e = c.in-Some.ensures.1 in
    let o = north_over c.requires k in
    above_apart c.requires k (λ z. c.if-read.false (c.read.ensures ∙ rw e z ∙ sym c.read-2.ensures))
    (left_met c.requires.leaf o (rw (c.left.ensures, e) at c.meet.ensures))
    (right_met (met_leaf c.requires.leaf c.meet.ensures) o (rw (c.right.ensures, e) at c.meet-2.ensures))
