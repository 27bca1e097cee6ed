-- Answers of the calls on small maps: the work words that they ask for, the largest sides, stores just large enough and one word short.
use Prim.Native.Nat.{ℕ}
use mathlib.Core.Path.{◌≡◌, refl}
use mathlib.Core.List.{List, [], ◌∷◌}
use lib.ListN.{replicate}
use Rattle.rules.specs.Lists.{keep, flat, upto, among}
use Rattle.rules.specs.Picture.{OUTSIDE, seen, label, northwest, picture, same_dart, to_x, to_y, turned, left_at, left, right, crack, degree, node}
use Rattle.rules.specs.Graph.{way_on, onward, following, meets, ending, walk, fuel, on, visit, trace, row, rows, out, corners, nodes, segments}
use Rattle.rules.specs.Face.{pixels, label_of, lesser, lesser3, least, rounds, firsts, backwards, refs, steps, first_step, last_step, out_entry, keeps, successor, turn, region, is_open, next, round, enter, discover, contours, insert, sorted, islands, beside_at, island_of, face, faces}
use Rattle.rules.specs.Records.{node_record, node_words, node_at, point_records, point_words, segment_words, contours_of, contour_words, face_words}
use Rattle.rules.specs.Calls.{Map, Answer, cuts, cut_list, graph_list, counted, refused, first_hit, map_checks, short, graph_checks, face_checks, early, answer, call, size, graph, whole}
use Rattle.calls.specs.Outcome.{map_with}

abbrev zeros : ℕ → List ℕ
zeros n = replicate n 0

abbrev pair : Map
pair = map_with 2 1 2 OUTSIDE (0 ∷ 1 ∷ [])

-- the counts of the 2×1 map, with a number
abbrev pair_answer : ℕ → Answer
pair_answer n = record { number = n; nodes = 2; segments = 3; points = 10; references = 4; contours = 2; faces = 2; steps = 7 }

pub record Answers : Type 0 where
  -- 0×0 asks for 8 work words, 3×0 for 32
  pub empty_short : (paints : ℕ) → (size (map_with 0 0 paints OUTSIDE []) (zeros 7)).answer ≡ refused 3
  pub empty_enough : (paints : ℕ) → (size (map_with 0 0 paints OUTSIDE []) (zeros 8)).answer ≡ refused 0
  pub flat_short : (paints : ℕ) → (size (map_with 3 0 paints OUTSIDE []) (zeros 31)).answer ≡ refused 3
  pub flat_enough : (paints : ℕ) → (size (map_with 3 0 paints OUTSIDE []) (zeros 32)).answer ≡ refused 0
  -- 16,385×0: 1, whatever the labels and the work store
  pub wide : (paints : ℕ) (ls work : List ℕ) → (size (map_with 16385 0 paints OUTSIDE ls) work).answer ≡ refused 1
  -- the 2×1 map: all six stores just large enough; room for 9 points; a 9-word face store; an 11-word node store
  pub exact : (whole pair (zeros 48) (zeros 12) (zeros 24) (zeros 20) (zeros 4) (zeros 4) (zeros 10)).answer ≡ pair_answer 0
  pub nine_points : (whole pair (zeros 48) (zeros 12) (zeros 24) (zeros 18) (zeros 4) (zeros 4) (zeros 10)).answer ≡ pair_answer 6
  pub nine_face_words : (whole pair (zeros 48) (zeros 12) (zeros 24) (zeros 20) (zeros 4) (zeros 4) (zeros 9)).answer ≡ pair_answer 9
  pub eleven_words : (whole pair (zeros 48) (zeros 11) (zeros 24) (zeros 20) (zeros 4) (zeros 4) (zeros 10)).answer ≡ pair_answer 4
  -- two pixels that touch at a corner: a node, two walks that come back to it, and one contour of both
  pub corner_pair : cut_list (map_with 2 2 1 OUTSIDE (0 ∷ OUTSIDE ∷ OUTSIDE ∷ 0 ∷ [])) ≡ record {
    nodes = 1 ∷ 1 ∷ 0 ∷ 2 ∷ 3 ∷ 1 ∷ [];
    segments = 0 ∷ 5 ∷ 0 ∷ 0 ∷ 0 ∷ OUTSIDE ∷ 0 ∷ 1 ∷ 5 ∷ 5 ∷ 0 ∷ 0 ∷ OUTSIDE ∷ 0 ∷ 1 ∷ 0 ∷ [];
    points = 1 ∷ 1 ∷ 1 ∷ 0 ∷ 0 ∷ 0 ∷ 0 ∷ 1 ∷ 1 ∷ 1 ∷ 1 ∷ 1 ∷ 2 ∷ 1 ∷ 2 ∷ 2 ∷ 1 ∷ 2 ∷ 1 ∷ 1 ∷ [];
    references = 0 ∷ 3 ∷ [];
    contours = 0 ∷ 2 ∷ [];
    faces = 0 ∷ 0 ∷ 1 ∷ 0 ∷ 0 ∷ [];
    steps = 8;
  }

pub answers : Answers
unfolding keep flat upto among seen label northwest picture same_dart to_x to_y turned left_at left right crack degree node way_on onward following meets ending walk fuel on visit trace row rows out corners nodes segments pixels label_of lesser lesser3 least rounds firsts backwards refs steps first_step last_step out_entry keeps successor turn region is_open next round enter discover contours insert sorted islands beside_at island_of face faces node_record node_words node_at point_records point_words segment_words contours_of contour_words face_words cuts cut_list counted graph_list first_hit map_checks short graph_checks face_checks early answer call size graph whole
answers = record {
  empty_short = λ p. refl;
  empty_enough = λ p. refl;
  flat_short = λ p. refl;
  flat_enough = λ p. refl;
  wide = λ p ls work. refl;
  exact = refl;
  nine_points = refl;
  nine_face_words = refl;
  eleven_words = refl;
  corner_pair = refl;
}
