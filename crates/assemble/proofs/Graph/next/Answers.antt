-- `assemble::Graph::next` meets its contract.
use Rattle.assemble.proofs.Following.{next_said}
use Rattle.assemble.proofs.Graph.next.Goals as goal

pub returns : goal.returns
returns c =
    rw (← c.end_node-n.ensures, ← c.heading.ensures, ← c.region.ensures)
    (next_said _ _ _ _ _ _ _ _ _ _ c.node_word-x.ensures c.node_word-y.ensures c.look-a.ensures c.successor-d.ensures c.out.ensures)
