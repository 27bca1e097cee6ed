-- The file that the words of the stores come to, whatever they are, and bytes put into a store (docs/RULES.md, #109).
use Rattle.std.specs.Prelude.{ℕ, ◌+◌, ◌*◌, ◌≤◌, min, ◌≡◌, List, [], ◌∷◌, ◌++◌, map, ltb, length, get_or}
use Rattle.std.proofs.lemmas.List.Edits.{sets}
use Rattle.rules.specs.Lists.{flat, upto}
use Rattle.rules.specs.Calls.{first_hit}
use Rattle.store.specs.Words.{part}
use Rattle.jobfile.specs.JobFile.{Entry, bytes_of}

-- A STORE that bytes are put into from a place on: what has no room is dropped. The place that follows is the store's length at most
pub record Put (out : List ℕ) (at : ℕ) (bytes : List ℕ) (out' : List ℕ) (next : ℕ) : Type 0 where
  pub held : out' ≡ sets out at bytes
  pub place : next ≡ min (at + length bytes) (length out)
  pub within : next ≤ length out'

-- what each number from f on comes to, n of them
unfoldable pub pieces : (ℕ → List ℕ) → ℕ → ℕ → List ℕ
pieces g n f = flat (map g (upto n f))

-- RECORDS of the stores; a word past the end is 0

-- the map's numbers
unfoldable pub header_entry : ℕ → ℕ → ℕ → Entry
header_entry w h paints = (1, w ∷ h ∷ paints ∷ [])

-- the points of the segment i
unfoldable pub stored_segment : List ℕ → List ℕ → ℕ → Entry
stored_segment ss ps i = (2, part ps (2 * get_or ss (8 * i) 0) (2 * get_or ss (8 * i + 1) 0))

-- the contour k: its count and its references
unfoldable pub stored_contour : List ℕ → List ℕ → ℕ → List ℕ
stored_contour cs rs k = get_or cs (2 * k + 1) 0 ∷ part rs (get_or cs (2 * k) 0) (get_or cs (2 * k + 1) 0)

-- the face i, of five words: region, first contour, contour count, first pixel x and y
unfoldable pub stored_face : List ℕ → List ℕ → List ℕ → ℕ → Entry
stored_face fs cs rs i = (
  3,
  get_or fs (5 * i) 0 ∷ get_or fs (5 * i + 3) 0 ∷ get_or fs (5 * i + 4) 0 ∷ get_or fs (5 * i + 2) 0 ∷
      pieces (stored_contour cs rs) (get_or fs (5 * i + 2) 0) (get_or fs (5 * i + 1) 0),
)

-- THE FILE of so many segments and faces
unfoldable pub stored_file : ℕ → ℕ → ℕ → ℕ → ℕ → List ℕ → List ℕ → List ℕ → List ℕ → List ℕ → List ℕ
stored_file w h paints segments faces ss ps rs cs fs =
    bytes_of (header_entry w h paints)
    ++ (pieces (λ i. bytes_of (stored_segment ss ps i)) segments 0
    ++ pieces (λ i. bytes_of (stored_face fs cs rs i)) faces 0)

-- THE LENGTH by the counts, and the numbers 19 and 13, before any store is written
unfoldable pub size_by : ℕ → ℕ → ℕ → ℕ → ℕ → ℕ
size_by segments points references contours faces = 18 + 6 * segments + 8 * points + 22 * faces + 4 * (contours + references)

unfoldable pub file_number : ℕ → ℕ → ℕ → ℕ
file_number paints room size = first_hit (record { number = 19; hits = ltb 65535 paints } ∷ record { number = 13; hits = ltb room size } ∷ [])
