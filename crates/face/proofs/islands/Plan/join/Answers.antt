-- `islands::Plan::join` meets its contract.
use Rattle.face.proofs.islands.Neighbours.{joined_already, second_leaf, joined}
use Rattle.face.proofs.islands.Plan.join.Goals as goal

pub returns-then-work-self : goal.returns-then-work-self
returns-then-work-self c = joined_already c.requires.leaf c.requires.before c.requires.same c.if-work-self.true

pub root-b-requires : goal.root-b-requires
root-b-requires c = second_leaf c.requires.leaf c.requires.before c.requires.same c.root-a.ensures

pub returns : goal.returns
returns c = rw (c.max.ensures, c.min.ensures) (joined c.requires.leaf c.requires.before c.requires.same c.root-a.ensures c.root-b.ensures)
