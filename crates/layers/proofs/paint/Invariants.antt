-- The loop of `paint`: what it keeps.
use mathlib.Core.Path.{◌≡◌}
use Rattle.layers.specs.Layers.{mask_at}
use Rattle.layers.specs.Painting.{Painted}
use Rattle.layers.proofs.paint.Given as goal

abbrev pub invariant-loop-i : goal.invariant-loop-i
invariant-loop-i l = (l.mask ≡ mask_at l.layers l.i) × Painted l.layers l.masks l.width l.height l.i l.labels
