-- The words of the six stores, and the seven counts (docs/RULES.md, "Numbers").
use Rattle.std.specs.Prelude.{ℕ, suc, pred, ◌+◌, ◌/◌, ◌%◌, true, false, cond, ◌&&◌, List, [], ◌∷◌, map, eqb, length, get_or}
use Rattle.rules.specs.Lists.{flat}
use Rattle.rules.specs.Picture.{Picture, code, Dart, dart, ahead_x, ahead_y, left, right, node}
use Rattle.rules.specs.declared.Dir.TheVariants.{N, E, S, W}
use Rattle.rules.specs.Graph.{nodes}
use Rattle.rules.specs.Face.{out_entry, no_dart, Face}

abbrev pub NONE : ℕ
NONE = 4294967295

-- NODES: x, y, out N, E, S, W

unfoldable pub node_record : List (List Dart) → ℕ × ℕ → List ℕ
node_record ss c =
    c.0 ∷ c.1 ∷ out_entry ss (dart c.0 c.1 N) ∷ out_entry ss (dart c.0 c.1 E) ∷ out_entry ss (dart c.0 c.1 S) ∷ out_entry ss (dart c.0 c.1 W) ∷ []

unfoldable pub node_words : List (List Dart) → List (ℕ × ℕ) → List ℕ
node_words ss ns = flat (map (node_record ss) ns)

-- the number of the node at a corner, counted from i
unfoldable pub node_at : List (ℕ × ℕ) → ℕ → ℕ → ℕ → ℕ
node_at [] i x y = NONE
node_at (c ∷ cs) i x y = elim (eqb c.0 x && eqb c.1 y) [ true ↦ i | false ↦ node_at cs (suc i) x y ]

-- POINTS: where each step leaves, and where the last one leads

unfoldable pub point_records : List Dart → List ℕ
point_records [] = []
point_records (a ∷ []) = a.x ∷ a.y ∷ ahead_x a ∷ ahead_y a ∷ []
point_records (a ∷ b ∷ more) = a.x ∷ a.y ∷ point_records (b ∷ more)

unfoldable pub point_words : List (List Dart) → List ℕ
point_words ss = flat (map point_records ss)

-- SEGMENTS: first point, point count, start node, end node, left, right, first direction, last direction (0 for a ring)

unfoldable pub segment_words : Picture → ℕ → List (List Dart) → List ℕ
segment_words P i [] = []
segment_words P i (s ∷ ss) =
    let a = get_or s 0 no_dart in
    let z = get_or s (pred (length s)) no_dart in
    i ∷ suc (length s) ∷
    node_at (nodes P) 0 a.x a.y ∷ node_at (nodes P) 0 (ahead_x z) (ahead_y z) ∷
    left P a ∷ right P a ∷ code a.d ∷ cond (node P a.x a.y) (code z.d) 0 ∷
    segment_words P (i + suc (length s)) ss

-- REFERENCES contour after contour; CONTOURS: first reference, count; FACES: region, first contour, count, and x and y of the island's
-- first pixel, on a map that is w wide

unfoldable pub contours_of : List Face → List (List ℕ)
contours_of fs = flat (map (λ f. f.contours) fs)

unfoldable pub contour_words : ℕ → List (List ℕ) → List ℕ
contour_words i [] = []
contour_words i (c ∷ cs) = i ∷ length c ∷ contour_words (i + length c) cs

unfoldable pub face_words : ℕ → ℕ → List Face → List ℕ
face_words w i [] = []
face_words w i (f ∷ fs) = f.region ∷ i ∷ length f.contours ∷ (f.first % w) ∷ (f.first / w) ∷ face_words w (i + length f.contours) fs

-- of each record the words that the Rust writes too: region, first contour, count
unfoldable pub unplaced : List ℕ → List ℕ
unplaced (a ∷ b ∷ c ∷ x ∷ y ∷ more) = a ∷ b ∷ c ∷ unplaced more
unplaced [] = []
unplaced (a ∷ []) = []
unplaced (a ∷ b ∷ []) = []
unplaced (a ∷ b ∷ c ∷ []) = []
unplaced (a ∷ b ∷ c ∷ x ∷ []) = []
