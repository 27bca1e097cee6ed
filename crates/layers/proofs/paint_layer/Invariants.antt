-- The loop of `paint_layer`: what it keeps.
use mathlib.Core.Path.{◌≡◌}
use lib.ListN.{length}
use Rattle.layers.specs.Painting.{Layered}
use Rattle.layers.proofs.paint_layer.Given as goal

abbrev pub invariant-loop-k : goal.invariant-loop-k
invariant-loop-k l = Layered l.masks l.width l.fn.stamp l.number l.k l.initial.labels l.labels × (length l.labels ≡ length l.initial.labels)
