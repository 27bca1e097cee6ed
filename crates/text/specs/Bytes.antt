-- Quoted text as bytes.
use Rattle.std.specs.Prelude.{ℕ, List, [], ◌∷◌}
use Prim.Native.Char.{code}
use Prim.Native.String.{String, [] as empty, ◌∷◌ as ◌and◌}

-- the bytes of an ASCII text, so that a definition can quote what is printed
abbrev pub bytes : String → List ℕ
bytes empty = []
bytes (c and s) = code c ∷ bytes s
