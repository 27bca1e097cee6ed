-- What the words of a graph's records say of a reference.
use Rattle.std.specs.Prelude.{ℕ, ◌+◌, ◌*◌, ◌-◌, ◌/◌, ◌%◌, ◌<◌, ◌≤◌, ◌≡◌, Bool, cond, not, List, [], eqb, ltb, get_or}
use Rattle.rules.specs.Picture.{Picture, code, back_of}
use Rattle.rules.specs.declared.Dir.{Dir}
use Rattle.rules.specs.declared.Dir.TheVariants.{N, E, S, W}
use Rattle.rules.specs.Face.{successor, beside}
use Rattle.rules.specs.Records.{NONE}
use Rattle.lattice.specs.declared.Size.{Size}
use Rattle.lattice.specs.declared.Walker.{Walker}
use Rattle.lattice.specs.Walker.{dart_of}
use Rattle.lattice.specs.Size.{Corner, pic}
use Rattle.lattice.specs.Dirs.{dir}

-- the word k of the record of its segment
abbrev pub word_in : List ℕ → ℕ → ℕ → ℕ
word_in segs r k = get_or segs (8 * (r / 2) + k) 0

abbrev pub region_in : List ℕ → ℕ → ℕ
region_in segs r = word_in segs r (4 + r % 2)

abbrev pub open_in : List ℕ → ℕ → Bool
open_in segs r = not (eqb (word_in segs r 2) NONE)

-- the node that it ends at
abbrev pub end_in : List ℕ → ℕ → ℕ
end_in segs r = word_in segs r (3 - r % 2)

-- the direction in which it arrives: a reversed one goes against the first step
unfoldable pub heading_in : List ℕ → ℕ → Dir
heading_in segs r = let d = dir (word_in segs r (7 - r % 2) % 4) in cond (eqb (r % 2) 0) d (back_of d)

-- the word k of the record of the node n
abbrev pub node_in : List ℕ → ℕ → ℕ → ℕ
node_in nodes n k = get_or nodes (6 * n + k) 0

unfoldable pub next_at : Picture → List ℕ → ℕ → Dir → ℕ → ℕ
next_at P nodes n d region = node_in nodes n (2 + code (successor P (node_in nodes n 0) (node_in nodes n 1) d region))

abbrev pub next_in : Picture → List ℕ → List ℕ → ℕ → ℕ
next_in P nodes segs r = next_at P nodes (end_in segs r) (heading_in segs r) (region_in segs r)

-- that node is at a corner of the map
abbrev pub EndsAt : Size → List ℕ → List ℕ → ℕ → Type 0
EndsAt s nodes segs r = Corner s (node_in nodes (end_in segs r) 0) (node_in nodes (end_in segs r) 1)

-- THE FIRST STEP of a reference, by the points of its segment

-- the direction from one corner to the next
unfoldable pub dir_to : ℕ → ℕ → ℕ → ℕ → Dir
dir_to x y u v = cond (ltb v y) N (cond (ltb x u) E (cond (ltb y v) S W))

abbrev pub point_x : List ℕ → ℕ → ℕ
point_x points i = get_or points (2 * i) 0

abbrev pub point_y : List ℕ → ℕ → ℕ
point_y points i = get_or points (2 * i + 1) 0

-- the step from the point i to the point j
abbrev pub step_in : List ℕ → ℕ → ℕ → Walker
step_in points i j = record { x = point_x points i; y = point_y points i; d = dir_to (point_x points i) (point_y points i) (point_x points j) (point_y points j) }

unfoldable pub first_in : List ℕ → List ℕ → ℕ → Walker
first_in segs points r =
    let first = word_in segs r 0 in
    let last = first + word_in segs r 1 - 1 in
    cond (eqb (r % 2) 0) (step_in points first (first + 1)) (step_in points last (last - 1))

-- the pixel on its left is on the map
pub record Flanked (s : Size) (w : Walker) : Type 0 where
  pub wide : s.width ≤ 16384
  pub across : w.x ≤ 16384
  pub down : w.y ≤ 16384
  pub north : w.d ≡ N → (0 < w.x) × (0 < w.y)
  pub east : w.d ≡ E → 0 < w.y
  pub west : w.d ≡ W → 0 < w.x

-- that pixel: of the picture only the width counts
abbrev pub pixel_in : Size → Walker → ℕ
pixel_in s w = beside (pic s []) (dart_of w)

-- the number of its island, by the numbers from `ids` on
abbrev pub island_in : Size → List ℕ → List ℕ → List ℕ → ℕ → ℕ → ℕ
island_in s segs points work ids r = get_or work (ids + pixel_in s (first_in segs points r)) 0

-- where r starts: two points, and a pixel of the map on the left of the step from one to the other
pub record Starts (s : Size) (segs points : List ℕ) (r : ℕ) : Type 0 where
  pub two : 2 ≤ word_in segs r 1
  pub flanked : Flanked s (first_in segs points r)
