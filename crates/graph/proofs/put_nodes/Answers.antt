-- `graph::put_nodes` meets its contract.
use Rattle.graph.proofs.Listing.{records_none, records_more}
use Rattle.graph.proofs.put_nodes.Goals as goal

pub loop-i-init : goal.loop-i-init
loop-i-init c = let a = c.args in records_none a.work.now a.at a.nodes.now

pub loop-i-preserved : goal.loop-i-preserved
loop-i-preserved c =
    let a = c.args in
    let l = c.loop-i in
    let p = c.corner_at-p.ensures in
    records_more a.work.now a.nodes.now _ _ a.at l.i _ _ p.0 p.1 l.invariant c.put_node.ensures
