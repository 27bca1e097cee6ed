-- The loop of `node_fits`: what it keeps.
use Prim.Native.Nat.{ℕ, ◌<◌}
use mathlib.Core.List.{List}
use lib.ListN.{get_or}
use Rattle.rules.specs.declared.Dir.TheVariants.{N}
use Rattle.accept.specs.Walks.{given}
use Rattle.accept.specs.Checked.{Entry}
use Rattle.accept.proofs.Noding.{all_ways}
use Rattle.accept.proofs.node_fits.Given as goal

abbrev pub invariant-loop-d : goal.invariant-loop-d
invariant-loop-d l = (held : ℕ) (points : List ℕ) (k : ℕ) → k < l.d-index → Entry l.a (given l.nodes held l.segments l.count points) l.i (get_or all_ways k N)
