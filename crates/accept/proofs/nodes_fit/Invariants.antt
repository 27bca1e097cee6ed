-- The loop of `nodes_fit`: what it keeps.
use Prim.Native.Nat.{ℕ, ◌<◌}
use mathlib.Core.List.{List}
use Rattle.lattice.specs.Size.{pic}
use Rattle.accept.specs.Walks.{given}
use Rattle.accept.specs.Checked.{NodeFits}
use Rattle.accept.proofs.nodes_fit.Given as goal

abbrev pub invariant-loop-i : goal.invariant-loop-i
invariant-loop-i l = (points : List ℕ) (j : ℕ) → j < l.i → NodeFits (pic l.s l.labels) (given l.nodes l.held l.segments l.count points) j
