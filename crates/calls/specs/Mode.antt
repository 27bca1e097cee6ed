-- The map that a mode and three numbers mean.
use Rattle.std.specs.Prelude.{ℕ, true, false, List, eqb}
use Rattle.rules.specs.Picture.{OUTSIDE}
use Rattle.rules.specs.Calls.{Map}
use Rattle.lattice.specs.declared.Size.{Size}
use Rattle.calls.specs.Outcome.{map_of}

-- mode 0 reads every label as it is; any other reads a label that is not painted as OUTSIDE (docs/RULES.md, #107)
abbrev pub bound_in : ℕ → ℕ → ℕ
bound_in mode paints = elim (eqb mode 0) [ true ↦ OUTSIDE | false ↦ paints ]

abbrev pub size_in : ℕ → ℕ → ℕ → ℕ → Size
size_in mode w h paints = record { width = w; height = h; paints = paints; bound = bound_in mode paints }

abbrev pub map_in : ℕ → ℕ → ℕ → ℕ → List ℕ → Map
map_in mode w h paints ls = map_of (size_in mode w h paints) ls
