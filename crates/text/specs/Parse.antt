-- What a text is parsed as, for every list of bytes (docs/RULES.md, "textmap").
use Rattle.std.specs.Prelude.{ℕ, true, false, Result, Ok, Err, List, [], ◌∷◌, length, nat_lt}
use Rattle.rules.specs.Picture.{OUTSIDE}
use Rattle.lattice.specs.declared.Size.{Size}
use Rattle.text.specs.declared.BadMap.{BadMap}
use Rattle.text.specs.declared.BadMap.TheVariants.{TooBig, BadText}
use Rattle.text.specs.Grammar.{Header, header, no_header, read_header, lines, Rest, left, broken}

-- a map by its sides and its paints; beyond its edge lies OUTSIDE
abbrev pub Map : ℕ → ℕ → ℕ → Result Size BadMap
Map w h p = Ok (record { width = w; height = h; paints = p; bound = OUTSIDE })

-- the answer, and the labels that were read, in order
pub record Outcome : Type 0 where
  pub answer : Result Size BadMap
  pub labels : List ℕ

-- nothing may follow the last line
unfoldable pub whole : Result Size BadMap → Rest → Result Size BadMap
whole m (left []) = m
whole m (left (b ∷ s)) = Err BadText
whole m broken = Err BadText

unfoldable pub body : ℕ → ℕ → ℕ → List ℕ → Outcome
body w h p s = record { answer = whole (Map w h p) (lines w h s).rest; labels = (lines w h s).labels }

unfoldable pub small : Header → Outcome
small no_header = record { answer = Err BadText; labels = [] }
small (header w h p s) = elim (nat_lt 16 w) [ true ↦ record { answer = Err TooBig; labels = [] } | false ↦ elim (nat_lt 16 h) [ true ↦ record { answer = Err TooBig; labels = [] } | false ↦ body w h p s ] ]

-- too big: over 4,096 bytes, then a side above 16 in a readable header; else a map, or bad text
unfoldable pub parsed : List ℕ → Outcome
parsed s = elim (nat_lt 4096 (length s)) [ true ↦ record { answer = Err TooBig; labels = [] } | false ↦ small (read_header s) ]
