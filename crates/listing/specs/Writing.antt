-- The words that are written: a contour, a piece, all pieces.
use Rattle.std.specs.Prelude.{ℕ, zero, suc, ◌+◌, ◌*◌, ◌<◌, ◌≤◌, ◌≡◌, length, get_or}
use mathlib.Core.List.{List, [], ◌∷◌, map, Memᴰ as In}
use Rattle.std.proofs.lemmas.List.Edits.{sets}
use Rattle.rules.specs.Lists.{flat}
use Rattle.benches.specs.Listing.{loop_words}
use Rattle.store.specs.Words.{part}
use Rattle.rules.proofs.Contours.Loops.{loop_of}
use Rattle.lattice.specs.declared.Size.{Size}
use Rattle.lattice.specs.declared.Walker.{Walker}
use Rattle.lattice.specs.Size.{Map, pic}
use Rattle.lattice.specs.Planes.{plane}
use Rattle.face.specs.Contours.{Starts}
use Rattle.listing.specs.Starts.{start_of}
use Rattle.lattice.specs.Walker.{dart_of}

-- the words ws from `at` on, and where they end
pub record Wrote (ws : List ℕ) (at : ℕ) (out out' : List ℕ) (e : ℕ) : Type 0 where
  pub words : out' ≡ sets out at ws
  pub end : e ≡ at + length ws

-- those of the contour of w
abbrev pub Contour : Size → List ℕ → ℕ → Walker → List ℕ → List ℕ → ℕ → Type 0
Contour s ls at w out out' end = Wrote (loop_words (loop_of (pic s ls) (dart_of w))) at out out' end

-- CONTOURS STRUNG BY ISLAND: numbers counted from 1, and 0 is none

-- from the number k on
abbrev pub chain_of : ℕ → (ℕ → ℕ) → ℕ → List ℕ
chain_of zero next k = []
chain_of (suc f) next zero = []
chain_of (suc f) next (suc j) = j ∷ chain_of f next (next j)

-- it comes to an end after l
abbrev pub Chain : (ℕ → ℕ) → ℕ → List ℕ → Type 0
Chain next k [] = k ≡ 0
Chain next k (j ∷ l) = (k ≡ suc j) × Chain next (next j) l

-- plane 2 has the starts, plane 3 the next one's number, plane 4 the first one's by the island's first pixel
abbrev pub start_in : Size → List ℕ → ℕ → Walker
start_in s work j = start_of s (get_or work (2 * plane s.width s.height + j) 0)

abbrev pub next_in : Size → List ℕ → ℕ → ℕ
next_in s work j = get_or work (3 * plane s.width s.height + j) 0

abbrev pub head_in : Size → List ℕ → ℕ → ℕ
head_in s work p = get_or work (4 * plane s.width s.height + p) 0

unfoldable pub contours_in : Size → List ℕ → ℕ → List ℕ
contours_in s work p = chain_of 4294967296 (next_in s work) (head_in s work p)

-- the words of a contour, of a piece and of the n pieces in plane 6
abbrev pub loop_in : Size → List ℕ → List ℕ → ℕ → List ℕ
loop_in s ls work j = loop_words (loop_of (pic s ls) (dart_of (start_in s work j)))

unfoldable pub piece_in : Size → List ℕ → List ℕ → ℕ → List ℕ
piece_in s ls work p = get_or ls p 0 ∷ length (contours_in s work p) ∷ flat (map (loop_in s ls work) (contours_in s work p))

abbrev pub islands_in : Size → List ℕ → ℕ → List ℕ
islands_in s work n = part work (6 * plane s.width s.height) n

abbrev pub pieces_in : Size → List ℕ → List ℕ → ℕ → List ℕ
pieces_in s ls work n = flat (map (piece_in s ls work) (islands_in s work n))

-- the contours of the island p are strung, and each starts with a side of its label
pub record Strung (s : Size) (ls work : List ℕ) (p : ℕ) : Type 0 where
  pub map : Map s ls
  pub on : p < s.width * s.height
  pub chain : Chain (next_in s work) (head_in s work p) (contours_in s work p)
  pub few : length (contours_in s work p) ≤ 4294967295
  pub begin : (j : ℕ) → In j (contours_in s work p) → Starts s ls (start_in s work j) (get_or ls p 0)

-- so are those of the n islands in plane 6, and their words are no more than a 32-bit word counts
pub record Planned (s : Size) (ls work : List ℕ) (n : ℕ) : Type 0 where
  pub map : Map s ls
  pub few : n ≤ s.width * s.height
  pub strung : (i : ℕ) → i < n → Strung s ls work (get_or work (6 * plane s.width s.height + i) 0)
  pub short : length (pieces_in s ls work n) < 4294967296
