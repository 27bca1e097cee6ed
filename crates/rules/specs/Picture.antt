-- A map as extraction sees it, and the cracks between its pixels (docs/RULES.md, "The lattice").
-- Everything above this file speaks of a `Picture` and never of a list of labels: a new way to look a label up changes `picture` alone.
use Rattle.std.specs.Prelude.{ℕ, zero, suc, pred, ◌+◌, ◌*◌, Bool, true, false, cond, not, ◌&&◌, List, leb, ltb, eqb, get_or}
use Rattle.rules.specs.declared.Dir.{Dir}
use Rattle.rules.specs.declared.Dir.TheVariants.{N, E, S, W}

abbrev pub OUTSIDE : ℕ
OUTSIDE = 4294967295

-- the sides, and at each corner (x, y) the label of the pixel north-west of it, the one whose south_east corner it is
pub record Picture : Type 0 where
  pub w : ℕ
  pub h : ℕ
  pub nw : ℕ → ℕ → ℕ

-- a label as it is read: one at or above the bound is waste, and reads as OUTSIDE
unfoldable pub seen : ℕ → ℕ → ℕ
seen b l = elim (ltb l b) [ true ↦ l | false ↦ OUTSIDE ]

-- the label at the pixel (x, y), OUTSIDE off the map
unfoldable pub label : ℕ → ℕ → ℕ → List ℕ → ℕ → ℕ → ℕ
label w h b ls x y = cond (ltb x w && ltb y h) (seen b (get_or ls (y * w + x) OUTSIDE)) OUTSIDE

unfoldable pub northwest : (ℕ → ℕ → ℕ) → ℕ → ℕ → ℕ
northwest f zero y = OUTSIDE
northwest f (suc x) zero = OUTSIDE
northwest f (suc x) (suc y) = f x y

unfoldable pub picture : ℕ → ℕ → ℕ → List ℕ → Picture
picture w h b ls = record { w = w; h = h; nw = northwest (label w h b ls) }

-- DIRECTIONS, y downwards

abbrev pub code : Dir → ℕ
code N = 0
code E = 1
code S = 2
code W = 3

abbrev pub right_of : Dir → Dir
right_of N = E
right_of E = S
right_of S = W
right_of W = N

abbrev pub back_of : Dir → Dir
back_of N = S
back_of E = W
back_of S = N
back_of W = E

abbrev pub left_of : Dir → Dir
left_of N = W
left_of E = N
left_of S = E
left_of W = S

abbrev pub same_dir : Dir → Dir → Bool
same_dir a b = eqb (code a) (code b)

-- DARTS: a unit edge with a way to walk it, by the corner that it leaves and the direction

pub record Dart : Type 0 where
  pub x : ℕ
  pub y : ℕ
  pub d : Dir

abbrev pub dart : ℕ → ℕ → Dir → Dart
dart x y d = record { x = x; y = y; d = d }

unfoldable pub same_dart : Dart → Dart → Bool
same_dart a b = eqb a.x b.x && eqb a.y b.y && same_dir a.d b.d

-- the corner that a dart leads to: one step from a column, one step from a row
unfoldable pub to_x : ℕ → Dir → ℕ
to_x x N = x
to_x x E = suc x
to_x x S = x
to_x x W = pred x

unfoldable pub to_y : ℕ → Dir → ℕ
to_y y N = pred y
to_y y E = y
to_y y S = suc y
to_y y W = y

abbrev pub ahead_x : Dart → ℕ
ahead_x a = to_x a.x a.d

abbrev pub ahead_y : Dart → ℕ
ahead_y a = to_y a.y a.d

-- the same edge, the other way
unfoldable pub turned : Dart → Dart
turned a = dart (ahead_x a) (ahead_y a) (back_of a.d)

abbrev pub one : Bool → ℕ
one true = 1
one false = 0

module _ (P : Picture) where
  unfoldable pub left_at : ℕ → ℕ → Dir → ℕ
  left_at x y N = P.nw x y
  left_at x y E = P.nw (suc x) y
  left_at x y S = P.nw (suc x) (suc y)
  left_at x y W = P.nw x (suc y)

  -- the labels on a dart's left and right: N (nw, ne), E (ne, se), S (se, sw), W (sw, nw)
  unfoldable pub left : Dart → ℕ
  left a = left_at a.x a.y a.d

  unfoldable pub right : Dart → ℕ
  right a = left_at a.x a.y (right_of a.d)

  -- a crack: the two pixels differ
  unfoldable pub crack : Dart → Bool
  crack a = not (eqb (left a) (right a))

  unfoldable pub degree : ℕ → ℕ → ℕ
  degree x y = one (crack (dart x y N)) + one (crack (dart x y E)) + one (crack (dart x y S)) + one (crack (dart x y W))

  -- a node: three or four cracks
  unfoldable pub node : ℕ → ℕ → Bool
  node x y = leb 3 (degree x y)
