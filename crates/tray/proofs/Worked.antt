-- Small trays under one statement: the words of every store, by computing the definitions.
use Prim.Native.Nat.{ℕ}
use mathlib.Core.Path.{◌≡◌, refl}
use mathlib.Core.List.{List, [], ◌∷◌, ◌++◌}
use lib.ListN.{replicate}
use Rattle.rules.specs.Lists.{keep, flat, upto, among}
use Rattle.rules.specs.Picture.{OUTSIDE, seen, label, northwest, picture, same_dart, to_x, to_y, turned, left_at, left, right, crack, degree, node}
use Rattle.rules.specs.Graph.{way_on, onward, following, meets, ending, walk, fuel, on, visit, trace, row, rows, out, corners, nodes, segments}
use Rattle.rules.specs.Face.{pixels, label_of, lesser, lesser3, least, rounds, firsts, backwards, refs, steps, first_step, last_step, out_entry, keeps, successor, turn, region, is_open, next, round, enter, discover, contours, insert, sorted, islands, beside_at, island_of, face, faces}
use Rattle.rules.specs.Records.{NONE, node_record, node_words, node_at, point_records, point_words, segment_words, contours_of, contour_words, face_words}
use Rattle.rules.specs.Calls.{cuts, cut_list, counted, first_hit, map_checks, short, graph_checks, face_checks, early, answer, work_after, store_after, call, whole}
use Rattle.tray.specs.Tray.{tiles, past_number, past, call as call_of, single, wrote, run, tray}
use Rattle.tray.specs.Steps.{stores_with, afterwards}

-- the words of the 1×1 map with label 0
abbrev ring : List ℕ
ring = 0 ∷ 5 ∷ NONE ∷ NONE ∷ OUTSIDE ∷ 0 ∷ 1 ∷ 0 ∷ []

abbrev square : List ℕ
square = 0 ∷ 0 ∷ 1 ∷ 0 ∷ 1 ∷ 1 ∷ 0 ∷ 1 ∷ 0 ∷ 0 ∷ []

abbrev pixel : List ℕ
pixel = 0 ∷ 0 ∷ 1 ∷ 5 ∷ 1 ∷ 1 ∷ 1 ∷ 4 ∷ []

abbrev piece : List ℕ
piece = 0 ∷ 0 ∷ 1 ∷ 0 ∷ 0 ∷ []

-- an answer without counts
abbrev only : ℕ → List ℕ
only n = n ∷ replicate 7 0

pub record Worked : Type 0 where
  -- a pixel, a map that is too wide, and the pair, numbered from 0 again; the last word is an unfinished three
  pub numbered : tray 0 (1 ∷ 1 ∷ 1 ∷ 16385 ∷ 0 ∷ 0 ∷ 2 ∷ 1 ∷ 2 ∷ 9 ∷ []) (0 ∷ 0 ∷ 1 ∷ []) (replicate 50 9)
      (stores_with (replicate 12 0) (replicate 32 0) (replicate 30 0) (replicate 5 0) (replicate 6 0) (replicate 15 0)) (replicate 26 7)
      ≡ afterwards 0 (replicate 48 0 ++ replicate 2 9)
      (stores_with (1 ∷ 0 ∷ NONE ∷ 0 ∷ 2 ∷ 4 ∷ 1 ∷ 1 ∷ 3 ∷ 1 ∷ NONE ∷ 5 ∷ [])
      (ring ++ (0 ∷ 4 ∷ 0 ∷ 1 ∷ OUTSIDE ∷ 1 ∷ 1 ∷ 3 ∷ 4 ∷ 2 ∷ 0 ∷ 1 ∷ 1 ∷ 0 ∷ 2 ∷ 2 ∷ 6 ∷ 4 ∷ 0 ∷ 1 ∷ 0 ∷ OUTSIDE ∷ 3 ∷ 1 ∷ []))
      (square ++ (1 ∷ 0 ∷ 2 ∷ 0 ∷ 2 ∷ 1 ∷ 1 ∷ 1 ∷ 1 ∷ 0 ∷ 1 ∷ 1 ∷ 1 ∷ 0 ∷ 0 ∷ 0 ∷ 0 ∷ 1 ∷ 1 ∷ 1 ∷ []))
      (1 ∷ 3 ∷ 4 ∷ 1 ∷ 2 ∷ []) (0 ∷ 1 ∷ 0 ∷ 2 ∷ 2 ∷ 2 ∷ []) (piece ++ piece ++ (1 ∷ 1 ∷ 1 ∷ 1 ∷ 0 ∷ [])))
      (pixel ++ only 1 ++ (0 ∷ 2 ∷ 3 ∷ 10 ∷ 4 ∷ 2 ∷ 2 ∷ 7 ∷ []) ++ replicate 2 7)
  -- a pixel, the pair with room for 9 points only, and a pixel
  pub short_between : tray 0 (1 ∷ 1 ∷ 1 ∷ 2 ∷ 1 ∷ 2 ∷ 1 ∷ 1 ∷ 1 ∷ []) (0 ∷ 0 ∷ 1 ∷ 0 ∷ []) (replicate 48 9)
      (stores_with (replicate 12 0) (replicate 32 0) (replicate 28 0) (replicate 5 0) (replicate 6 0) (replicate 15 0)) (replicate 24 7)
      ≡ afterwards 0 (replicate 48 0)
      (stores_with (replicate 12 0) (ring ++ ring ++ replicate 16 0) (square ++ square ++ replicate 8 0) (1 ∷ 1 ∷ 0 ∷ 0 ∷ 0 ∷ []) (0 ∷ 1 ∷ 0 ∷ 1 ∷ 0 ∷ 0 ∷ []) (piece ++ piece ++ replicate 5 0))
      (pixel ++ (6 ∷ 2 ∷ 3 ∷ 10 ∷ 4 ∷ 2 ∷ 2 ∷ 7 ∷ []) ++ pixel)
  -- 4 labels: a pixel, a 2×2 map that runs past them, and behind it 0×0 and 16,385×0
  pub past_the_store : tray 0 (1 ∷ 1 ∷ 1 ∷ 2 ∷ 2 ∷ 1 ∷ 0 ∷ 0 ∷ 1 ∷ 16385 ∷ 0 ∷ 1 ∷ []) (replicate 4 0) (replicate 72 9)
      (stores_with [] (replicate 8 0) (replicate 10 0) (0 ∷ []) (replicate 2 0) (replicate 5 0)) (replicate 32 7)
      ≡ afterwards 0 (replicate 32 0 ++ replicate 40 9) (stores_with [] ring square (1 ∷ []) (0 ∷ 1 ∷ []) piece) (pixel ++ only 2 ++ only 2 ++ only 1)
  -- a pixel, a 4×1 map that the work store is too short for, and behind its four labels a pixel with label 7
  pub skipped : tray 0 (1 ∷ 1 ∷ 1 ∷ 4 ∷ 1 ∷ 1 ∷ 1 ∷ 1 ∷ 1 ∷ []) (0 ∷ 0 ∷ 0 ∷ 0 ∷ 0 ∷ 7 ∷ []) (replicate 40 9)
      (stores_with [] (replicate 16 0) (replicate 20 0) (0 ∷ []) (replicate 2 0) (replicate 5 0)) (replicate 24 7)
      ≡ afterwards 0 (replicate 32 0 ++ replicate 8 9)
      (stores_with [] (ring ++ (0 ∷ 5 ∷ NONE ∷ NONE ∷ OUTSIDE ∷ 7 ∷ 1 ∷ 0 ∷ [])) (square ++ square) (1 ∷ []) (0 ∷ 1 ∷ []) piece)
      (pixel ++ only 3 ++ (0 ∷ 0 ∷ 1 ∷ 5 ∷ 0 ∷ 0 ∷ 0 ∷ 4 ∷ []))
  -- two pixels and 15 answer words
  pub eighteen : tray 0 (1 ∷ 1 ∷ 1 ∷ 1 ∷ 1 ∷ 1 ∷ []) (0 ∷ 0 ∷ []) (replicate 32 9) (stores_with [] (replicate 16 0) (replicate 20 0) (0 ∷ 0 ∷ []) (replicate 4 0) (replicate 10 0)) (replicate 15 7)
      ≡ afterwards 18 (replicate 32 9) (stores_with [] (replicate 16 0) (replicate 20 0) (0 ∷ 0 ∷ []) (replicate 4 0) (replicate 10 0)) (replicate 15 7)
  -- without cuts through waste, a pixel with label 7 twice: of 1 paint it is waste, of 8 it is painted
  pub own_bound : tray 1 (1 ∷ 1 ∷ 1 ∷ 1 ∷ 1 ∷ 8 ∷ []) (7 ∷ 7 ∷ []) (replicate 32 9) (stores_with [] (replicate 8 0) (replicate 10 0) (0 ∷ []) (replicate 2 0) (replicate 5 0)) (replicate 16 7)
      ≡ afterwards 0 (replicate 32 0) (stores_with [] (0 ∷ 5 ∷ NONE ∷ NONE ∷ OUTSIDE ∷ 7 ∷ 1 ∷ 0 ∷ []) square (1 ∷ []) (0 ∷ 1 ∷ []) (7 ∷ 0 ∷ 1 ∷ 0 ∷ 0 ∷ [])) (only 0 ++ pixel)
  -- no map
  pub none : tray 0 (1 ∷ 1 ∷ []) [] (replicate 2 9) (stores_with [] [] [] [] [] []) [] ≡ afterwards 0 (replicate 2 9) (stores_with [] [] [] [] [] []) []

pub worked : Worked
unfolding keep flat upto among seen label northwest picture same_dart to_x to_y turned left_at left right crack degree node way_on onward following meets ending walk fuel on visit trace row rows out corners nodes segments pixels label_of lesser lesser3 least rounds firsts backwards refs steps first_step last_step out_entry keeps successor turn region is_open next round enter discover contours insert sorted islands beside_at island_of face faces node_record node_words node_at point_records point_words segment_words contours_of contour_words face_words cuts cut_list counted first_hit map_checks short graph_checks face_checks early answer work_after store_after call whole tiles past_number past call_of single wrote run tray
worked = record { numbered = refl; short_between = refl; past_the_store = refl; skipped = refl; eighteen = refl; own_bound = refl; none = refl }
