-- `calls::count_graph` meets its contract.
use Rattle.calls.proofs.Steps.{graph_counted}
use Rattle.calls.proofs.count_graph.Goals as goal

pub returns : goal.returns
returns c = graph_counted c.extract.ensures
