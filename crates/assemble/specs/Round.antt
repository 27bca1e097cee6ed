-- A round of references, and what `follow` asks and ensures.
use Rattle.std.specs.Prelude.{ℕ, ◌+◌, ◌<◌, ◌≡◌, Bool, eqb, length, set}
use mathlib.Core.List.{List, [], ◌∷◌, Memᴰ as In}
use Rattle.rules.specs.Picture.{Picture}
use Rattle.rules.proofs.Ground.Orbits.{until, Walk}
use Rattle.lattice.specs.declared.Size.{Size}
use Rattle.lattice.specs.Size.{pic}
use Rattle.assemble.specs.Words.{next_in, EndsAt}
use Rattle.assemble.specs.Trails.{end_of}

-- the next one is r
abbrev pub closes : Picture → List ℕ → List ℕ → ℕ → ℕ → Bool
closes P nodes segs r q = eqb (next_in P nodes segs q) r

-- from r on, until the next one is r
unfoldable pub round_in : Picture → List ℕ → List ℕ → ℕ → List ℕ
round_in P nodes segs r = until (next_in P nodes segs) (closes P nodes segs r) 4294967296 r

-- the words with f of each reference in its place
abbrev pub marks : (ℕ → ℕ) → ℕ → List ℕ → List ℕ → List ℕ
marks f trail ws [] = ws
marks f trail ws (r ∷ l) = marks f trail (set ws (trail + r) (f r)) l

-- the round closes, and each of its references ends at a corner of the map
pub record Closes (s : Size) (ls nodes segs : List ℕ) (r : ℕ) : Type 0 where
  pub rest : List ℕ
  pub walk : Walk (next_in (pic s ls) nodes segs) (closes (pic s ls) nodes segs r) r rest
  pub short : length rest < 4294967296
  pub ends : (q : ℕ) → In q (r ∷ rest) → EndsAt s nodes segs q

-- each reference has the next one in its place, and e is the last one
pub record Followed (s : Size) (ls nodes segs : List ℕ) (trail r : ℕ) (work work' : List ℕ) (e : ℕ) : Type 0 where
  pub last : e ≡ end_of (round_in (pic s ls) nodes segs r)
  pub marked : work' ≡ marks (next_in (pic s ls) nodes segs) trail work (round_in (pic s ls) nodes segs r)
