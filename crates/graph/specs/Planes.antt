-- The planes of the work words that extraction uses: marks of walked E edges, of walked S edges, the number of the node at each corner, and the
-- corners of nodes and of bends, by number.
use Rattle.std.specs.Prelude.{ℕ, pred, ◌+◌, ◌*◌, ◌/◌, ◌%◌, ◌≤◌, ◌<◌, Bool, not, ◌≡◌, List, [], ◌∷◌, map, eqb, get_or, set}
use Rattle.rules.specs.Lists.{upto}
use Rattle.rules.specs.Picture.{Dart}
use Rattle.rules.specs.declared.Dir.{Dir}
use Rattle.rules.specs.declared.Dir.TheVariants.{N, E, S, W}
use Rattle.lattice.specs.Planes.{plane, place}

-- MARKS

-- the word of an edge: a W edge is the E edge of the corner to the west, an N edge the S edge of the corner to the north
unfoldable pub slot_at : ℕ → ℕ → ℕ → ℕ → Dir → ℕ
slot_at w h x y N = plane w h + place w x (pred y)
slot_at w h x y E = place w x y
slot_at w h x y S = plane w h + place w x y
slot_at w h x y W = place w (pred x) y

abbrev pub slot : ℕ → ℕ → Dart → ℕ
slot w h a = slot_at w h a.x a.y a.d

abbrev pub marked : ℕ → ℕ → List ℕ → Dart → Bool
marked w h ws a = not (eqb (get_or ws (slot w h a) 0) 0)

-- the words with each of the darts marked
abbrev pub mark_all : ℕ → ℕ → List ℕ → List Dart → List ℕ
mark_all w h ws [] = ws
mark_all w h ws (a ∷ more) = mark_all w h (set ws (slot w h a) 1) more

-- an edge of the frame
pub record Inside (w h : ℕ) (a : Dart) : Type 0 where
  pub across : a.x ≤ w
  pub down : a.y ≤ h
  pub north : a.d ≡ N → 0 < a.y
  pub east : a.d ≡ E → a.x < w
  pub south : a.d ≡ S → a.y < h
  pub west : a.d ≡ W → 0 < a.x

-- NODES AND BENDS

-- the word of the number of the node at a corner
abbrev pub id_slot : ℕ → ℕ → ℕ → ℕ → ℕ
id_slot w h x y = 2 * plane w h + place w x y

-- the words of the corners of nodes and of bends, by number
abbrev pub node_slot : ℕ → ℕ → ℕ → ℕ
node_slot w h n = 3 * plane w h + n

abbrev pub bend_slot : ℕ → ℕ → ℕ → ℕ
bend_slot w h n = 4 * plane w h + n

-- a corner in one word
abbrev pub packed : ℕ → ℕ → ℕ
packed x y = y * 65536 + x

abbrev pub unpacked : ℕ → ℕ × ℕ
unpacked p = (p % 65536, p / 65536)

-- n corners from a place on
abbrev pub corners_at : List ℕ → ℕ → ℕ → List (ℕ × ℕ)
corners_at work at n = map (λ i. unpacked (get_or work (at + i) 0)) (upto n 0)
