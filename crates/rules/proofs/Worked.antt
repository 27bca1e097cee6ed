-- The maps worked by hand, under one statement: their facts, by computing the definitions.
use Prim.Native.Nat.{ℕ}
use mathlib.Core.Path.{◌≡◌, refl}
use mathlib.Core.List.{List, [], ◌∷◌}
use Rattle.rules.specs.Lists.{keep, flat, upto, among}
use Rattle.rules.specs.Picture.{OUTSIDE, seen, label, northwest, picture, same_dart, to_x, to_y, turned, left_at, left, right, crack, degree, node}
use Rattle.rules.specs.Graph.{way_on, onward, following, meets, ending, walk, fuel, on, visit, trace, row, rows, out, corners, nodes, segments}
use Rattle.rules.specs.Face.{pixels, label_of, lesser, lesser3, least, rounds, firsts, backwards, refs, steps, first_step, last_step, out_entry, keeps, successor, turn, region, is_open, next, round, enter, discover, contours, insert, sorted, islands, beside_at, island_of, face, faces}
use Rattle.rules.specs.Records.{NONE, node_record, node_words, node_at, point_records, point_words, segment_words, contours_of, contour_words, face_words}
use Rattle.rules.specs.Calls.{Map, cuts, cut_list, counted, work_words}

abbrev map : ℕ → ℕ → ℕ → List ℕ → Map
map w h paints ls = record { width = w; height = h; paints = paints; bound = OUTSIDE; labels = ls }

-- the seven counts, in answer order
abbrev counts : Map → List ℕ
counts m = let a = counted 0 (cut_list m) in a.nodes ∷ a.segments ∷ a.points ∷ a.references ∷ a.contours ∷ a.faces ∷ a.steps ∷ []

abbrev none : List ℕ
none = 0 ∷ 0 ∷ 0 ∷ 0 ∷ 0 ∷ 0 ∷ 0 ∷ []

-- all OUTSIDE but the pixel (0, 0) and the 3×3 block from (1, 1), which carry 0, and the block's centre, which carries 1
abbrev corner_touch : Map
corner_touch =
    map 4 4 2
    (0 ∷ OUTSIDE ∷ OUTSIDE ∷ OUTSIDE ∷
    OUTSIDE ∷ 0 ∷ 0 ∷ 0 ∷
    OUTSIDE ∷ 0 ∷ 1 ∷ 0 ∷
    OUTSIDE ∷ 0 ∷ 0 ∷ 0 ∷ [])

pub record Worked : Type 0 where
  -- no pixel: nothing, and the work words that are needed all the same
  pub empty : (paints : ℕ) → counts (map 0 0 paints []) ≡ none
  pub empty_work : (paints : ℕ) → work_words (map 0 0 paints []) ≡ 8
  pub flat_map : (paints : ℕ) → counts (map 3 0 paints []) ≡ none
  pub flat_work : (paints : ℕ) → work_words (map 3 0 paints []) ≡ 32
  -- one pixel: a ring from (0, 0), first direction E, left OUTSIDE, right 0, used reversed
  pub pixel : counts (map 1 1 1 (0 ∷ [])) ≡ 0 ∷ 1 ∷ 5 ∷ 1 ∷ 1 ∷ 1 ∷ 4 ∷ []
  pub pixel_ring : (cut_list (map 1 1 1 (0 ∷ []))).segments ≡ 0 ∷ 5 ∷ NONE ∷ NONE ∷ OUTSIDE ∷ 0 ∷ 1 ∷ 0 ∷ []
  pub pixel_points : (cut_list (map 1 1 1 (0 ∷ []))).points ≡ 0 ∷ 0 ∷ 1 ∷ 0 ∷ 1 ∷ 1 ∷ 0 ∷ 1 ∷ 0 ∷ 0 ∷ []
  pub pixel_used : (cut_list (map 1 1 1 (0 ∷ []))).references ≡ 1 ∷ []
  -- one unpainted pixel, one that is OUTSIDE, one with the largest label
  pub unpainted : counts (map 1 1 1 (7 ∷ [])) ≡ 0 ∷ 1 ∷ 5 ∷ 0 ∷ 0 ∷ 0 ∷ 4 ∷ []
  pub outside : counts (map 1 1 1 (OUTSIDE ∷ [])) ≡ none
  pub outside_largest : counts (map 1 1 4294967295 (OUTSIDE ∷ [])) ≡ none
  pub largest : counts (map 1 1 4294967295 (4294967294 ∷ [])) ≡ 0 ∷ 1 ∷ 5 ∷ 1 ∷ 1 ∷ 1 ∷ 4 ∷ []
  pub largest_face : (cut_list (map 1 1 4294967295 (4294967294 ∷ []))).faces ≡ 4294967294 ∷ 0 ∷ 1 ∷ 0 ∷ 0 ∷ []
  -- two pixels: every word of its cut list
  pub pair : cut_list (map 2 1 2 (0 ∷ 1 ∷ [])) ≡ record {
    nodes =
        1 ∷ 0 ∷ NONE ∷ 0 ∷ 2 ∷ 4 ∷
        1 ∷ 1 ∷ 3 ∷ 1 ∷ NONE ∷ 5 ∷ [];
    segments =
        0 ∷ 4 ∷ 0 ∷ 1 ∷ OUTSIDE ∷ 1 ∷ 1 ∷ 3 ∷
        4 ∷ 2 ∷ 0 ∷ 1 ∷ 1 ∷ 0 ∷ 2 ∷ 2 ∷
        6 ∷ 4 ∷ 0 ∷ 1 ∷ 0 ∷ OUTSIDE ∷ 3 ∷ 1 ∷ [];
    points =
        1 ∷ 0 ∷ 2 ∷ 0 ∷ 2 ∷ 1 ∷ 1 ∷ 1 ∷
        1 ∷ 0 ∷ 1 ∷ 1 ∷
        1 ∷ 0 ∷ 0 ∷ 0 ∷ 0 ∷ 1 ∷ 1 ∷ 1 ∷ [];
    references = 3 ∷ 4 ∷ 1 ∷ 2 ∷ [];
    contours = 0 ∷ 2 ∷ 2 ∷ 2 ∷ [];
    faces = 0 ∷ 0 ∷ 1 ∷ 0 ∷ 0 ∷ 1 ∷ 1 ∷ 1 ∷ 1 ∷ 0 ∷ [];
    steps = 7;
  }
  pub pair_counts : counts (map 2 1 2 (0 ∷ 1 ∷ [])) ≡ 2 ∷ 3 ∷ 10 ∷ 4 ∷ 2 ∷ 2 ∷ 7 ∷ []
  -- two patches of one label: faces 0, 0, 1, so one for each patch
  pub patches : counts (map 3 1 2 (0 ∷ 1 ∷ 0 ∷ [])) ≡ 4 ∷ 6 ∷ 16 ∷ 8 ∷ 3 ∷ 3 ∷ 10 ∷ []
  pub patches_faces : (cut_list (map 3 1 2 (0 ∷ 1 ∷ 0 ∷ []))).faces ≡ 0 ∷ 0 ∷ 1 ∷ 0 ∷ 0 ∷ 0 ∷ 1 ∷ 1 ∷ 2 ∷ 0 ∷ 1 ∷ 2 ∷ 1 ∷ 1 ∷ 0 ∷ []
  -- a checkerboard: two contours of six references
  pub checker : counts (map 2 2 2 (0 ∷ 1 ∷ 1 ∷ 0 ∷ [])) ≡ 5 ∷ 8 ∷ 20 ∷ 12 ∷ 2 ∷ 2 ∷ 12 ∷ []
  pub checker_contours : (cut_list (map 2 2 2 (0 ∷ 1 ∷ 1 ∷ 0 ∷ []))).contours ≡ 0 ∷ 6 ∷ 6 ∷ 6 ∷ []
  -- a rim around a centre: face 0 has the references 1 and 2, face 1 has 3
  pub rim : counts (map 3 3 2 (0 ∷ 0 ∷ 0 ∷ 0 ∷ 1 ∷ 0 ∷ 0 ∷ 0 ∷ 0 ∷ [])) ≡ 0 ∷ 2 ∷ 18 ∷ 3 ∷ 3 ∷ 2 ∷ 16 ∷ []
  pub rim_references : (cut_list (map 3 3 2 (0 ∷ 0 ∷ 0 ∷ 0 ∷ 1 ∷ 0 ∷ 0 ∷ 0 ∷ 0 ∷ []))).references ≡ 1 ∷ 2 ∷ 3 ∷ []
  pub rim_contours : (cut_list (map 3 3 2 (0 ∷ 0 ∷ 0 ∷ 0 ∷ 1 ∷ 0 ∷ 0 ∷ 0 ∷ 0 ∷ []))).contours ≡ 0 ∷ 1 ∷ 1 ∷ 1 ∷ 2 ∷ 1 ∷ []
  pub rim_faces : (cut_list (map 3 3 2 (0 ∷ 0 ∷ 0 ∷ 0 ∷ 1 ∷ 0 ∷ 0 ∷ 0 ∷ 0 ∷ []))).faces ≡ 0 ∷ 0 ∷ 2 ∷ 0 ∷ 0 ∷ 1 ∷ 2 ∷ 1 ∷ 1 ∷ 1 ∷ []
  -- patches that touch at a corner are one island: two faces, the first with the hole
  pub corner_touch_lem : (cut_list corner_touch).faces ≡ 0 ∷ 0 ∷ 2 ∷ 0 ∷ 0 ∷ 1 ∷ 2 ∷ 1 ∷ 2 ∷ 2 ∷ []

pub worked : Worked
unfolding keep flat upto among seen label northwest picture same_dart to_x to_y turned left_at left right crack degree node way_on onward following meets ending walk fuel on visit trace row rows out corners nodes segments pixels label_of lesser lesser3 least rounds firsts backwards refs steps first_step last_step out_entry keeps successor turn region is_open next round enter discover contours insert sorted islands beside_at island_of face faces node_record node_words node_at point_records point_words segment_words contours_of contour_words face_words cuts cut_list counted
worked = record {
  empty = λ p. refl;
  empty_work = λ p. refl;
  flat_map = λ p. refl;
  flat_work = λ p. refl;
  pixel = refl;
  pixel_ring = refl;
  pixel_points = refl;
  pixel_used = refl;
  unpainted = refl;
  outside = refl;
  outside_largest = refl;
  largest = refl;
  largest_face = refl;
  pair = refl;
  pair_counts = refl;
  patches = refl;
  patches_faces = refl;
  checker = refl;
  checker_contours = refl;
  rim = refl;
  rim_references = refl;
  rim_contours = refl;
  rim_faces = refl;
  corner_touch_lem = refl;
}
