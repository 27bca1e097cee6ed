-- `islands::Plan::meet` meets its contract.
use mathlib.Core.Path.{sym, ◌∙◌}
use native.Mathlib.Omega.{arith}
use Rattle.face.proofs.islands.Neighbours.{leaf_in, met_other, met_some, met_nobody}
use Rattle.face.proofs.islands.Plan.meet.Goals as goal

pub read-requires : goal.read-requires
read-requires c =
    let b = c.requires.before c.in-Some.q c.in-Some.is in
    omega (arith, b.earlier, leaf_in c.requires.leaf, c.requires.leaf.forest.sizes.labels)

pub join-requires-clause-before : goal.join-requires-clause-before
join-requires-clause-before c = c.requires.before c.in-Some.q c.in-Some.is

pub returns-in_default : goal.returns-in_default
returns-in_default c = met_nobody c.requires.leaf c.in_default.is

pub returns-then-read : goal.returns-then-read
returns-then-read c = rw c.in-Some.is (met_some c.join.ensures)

pub returns-else-read : goal.returns-else-read
returns-else-read c = rw c.in-Some.is (met_some (met_other c.requires.leaf (λ z. c.if-read.false (c.read.ensures ∙ z ∙ sym c.read-2.ensures))))
