-- The loop of `masks_whole`: what it keeps.
use mathlib.Core.Path.{◌≡◌}
use Prim.Native.Nat.{◌+◌}
use Rattle.layers.specs.Layers.{mask_at}
use Rattle.layers.proofs.masks_whole.Given as goal

abbrev pub invariant-loop-i : goal.invariant-loop-i
invariant-loop-i l = l.left + mask_at l.layers l.i ≡ l.bytes
