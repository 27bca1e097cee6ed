-- The loop of `put_nodes`: what it keeps.
use mathlib.Core.List.{[]}
use mathlib.Core.Path.{◌≡◌}
use lib.Seq.{sets}
use Rattle.rules.specs.Records.{node_words}
use Rattle.graph.specs.Planes.{corners_at}
use Rattle.graph.proofs.put_nodes.Given as goal

abbrev pub invariant-loop-i : goal.invariant-loop-i
invariant-loop-i l = l.nodes ≡ sets l.initial.nodes 0 (node_words [] (corners_at l.work l.at l.i))
