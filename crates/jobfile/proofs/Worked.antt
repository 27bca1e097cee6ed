-- The files of some small maps, byte for byte, and what they paint, by computing the definitions.
use Prim.Native.Nat.{ℕ}
use mathlib.Core.Bool.{true, false}
use mathlib.Core.Path.{◌≡◌, refl}
use mathlib.Core.List.{List, [], ◌∷◌}
use lib.ListN.{take}
use Rattle.rules.specs.Lists.{keep, flat, upto, among}
use Rattle.rules.specs.Picture.{OUTSIDE, seen, label, northwest, picture, same_dart, to_x, to_y, turned, left_at, left, right, crack, degree, node}
use Rattle.rules.specs.Graph.{way_on, onward, following, meets, ending, walk, fuel, on, visit, trace, row, rows, out, corners, nodes, segments}
use Rattle.rules.specs.Face.{pixels, label_of, lesser, lesser3, least, rounds, firsts, backwards, refs, steps, first_step, last_step, out_entry, keeps, successor, turn, region, is_open, next, round, enter, discover, contours, insert, sorted, islands, beside_at, island_of, face, faces}
use Rattle.rules.specs.Records.{point_records}
use Rattle.rules.specs.Calls.{Map}
use Rattle.jobfile.specs.JobFile.{word, word_bytes, bytes_of, map_entry, segment_entry, contour_body, face_body, face_entry, file_entries, file_bytes, file_of}
use Rattle.jobfile.specs.Entries.{word_at, words_of, pairs, body_length, kind_of, entry_size, body, rest, entries}
use Rattle.jobfile.specs.Painted.{heading, steps_from, steps_between, steps_of, of_kind, references_in, patch_of, patches, has, bordered, region_by, paint_at, paint_all, painted, same_bytes, is_file}

abbrev map : ℕ → ℕ → ℕ → List ℕ → Map
map w h paints ls = record { width = w; height = h; paints = paints; bound = OUTSIDE; labels = ls }

pub record Worked : Type 0 where
  -- two pixels: the map, three segments, two faces
  pub pair : file_of (map 2 1 2 (0 ∷ 1 ∷ [])) ≡
      12 ∷ 0 ∷ 0 ∷ 0 ∷ 1 ∷ 0 ∷ 2 ∷ 0 ∷ 0 ∷ 0 ∷ 1 ∷ 0 ∷ 0 ∷ 0 ∷ 2 ∷ 0 ∷ 0 ∷ 0 ∷
      32 ∷ 0 ∷ 0 ∷ 0 ∷ 2 ∷ 0 ∷ 1 ∷ 0 ∷ 0 ∷ 0 ∷ 0 ∷ 0 ∷ 0 ∷ 0 ∷ 2 ∷ 0 ∷ 0 ∷ 0 ∷ 0 ∷ 0 ∷ 0 ∷ 0 ∷ 2 ∷ 0 ∷ 0 ∷ 0 ∷ 1 ∷ 0 ∷ 0 ∷ 0 ∷ 1 ∷ 0 ∷ 0 ∷ 0 ∷ 1 ∷ 0 ∷ 0 ∷ 0 ∷
      16 ∷ 0 ∷ 0 ∷ 0 ∷ 2 ∷ 0 ∷ 1 ∷ 0 ∷ 0 ∷ 0 ∷ 0 ∷ 0 ∷ 0 ∷ 0 ∷ 1 ∷ 0 ∷ 0 ∷ 0 ∷ 1 ∷ 0 ∷ 0 ∷ 0 ∷
      32 ∷ 0 ∷ 0 ∷ 0 ∷ 2 ∷ 0 ∷ 1 ∷ 0 ∷ 0 ∷ 0 ∷ 0 ∷ 0 ∷ 0 ∷ 0 ∷ 0 ∷ 0 ∷ 0 ∷ 0 ∷ 0 ∷ 0 ∷ 0 ∷ 0 ∷ 0 ∷ 0 ∷ 0 ∷ 0 ∷ 1 ∷ 0 ∷ 0 ∷ 0 ∷ 1 ∷ 0 ∷ 0 ∷ 0 ∷ 1 ∷ 0 ∷ 0 ∷ 0 ∷
      28 ∷ 0 ∷ 0 ∷ 0 ∷ 3 ∷ 0 ∷ 0 ∷ 0 ∷ 0 ∷ 0 ∷ 0 ∷ 0 ∷ 0 ∷ 0 ∷ 0 ∷ 0 ∷ 0 ∷ 0 ∷ 1 ∷ 0 ∷ 0 ∷ 0 ∷ 2 ∷ 0 ∷ 0 ∷ 0 ∷ 3 ∷ 0 ∷ 0 ∷ 0 ∷ 4 ∷ 0 ∷ 0 ∷ 0 ∷
      28 ∷ 0 ∷ 0 ∷ 0 ∷ 3 ∷ 0 ∷ 1 ∷ 0 ∷ 0 ∷ 0 ∷ 1 ∷ 0 ∷ 0 ∷ 0 ∷ 0 ∷ 0 ∷ 0 ∷ 0 ∷ 1 ∷ 0 ∷ 0 ∷ 0 ∷ 2 ∷ 0 ∷ 0 ∷ 0 ∷ 1 ∷ 0 ∷ 0 ∷ 0 ∷ 2 ∷ 0 ∷ 0 ∷ 0 ∷ []
  pub pair_painted : painted (file_of (map 2 1 2 (0 ∷ 1 ∷ []))) ≡ map 2 1 2 (0 ∷ 1 ∷ [])
  -- waste alone: the map and nothing else
  pub waste : file_of (map 2 1 1 (5 ∷ 6 ∷ [])) ≡
      12 ∷ 0 ∷ 0 ∷ 0 ∷ 1 ∷ 0 ∷ 2 ∷ 0 ∷ 0 ∷ 0 ∷ 1 ∷ 0 ∷ 0 ∷ 0 ∷ 1 ∷ 0 ∷ 0 ∷ 0 ∷ []
  -- waste beside a piece is painted as OUTSIDE
  pub piece_painted : painted (file_of (map 3 1 1 (7 ∷ 0 ∷ 9 ∷ []))) ≡ map 3 1 1 (OUTSIDE ∷ 0 ∷ OUTSIDE ∷ [])
  -- a rim around a centre, and its file cut by one byte
  pub rim_painted : painted (file_of (map 3 3 2 (0 ∷ 0 ∷ 0 ∷ 0 ∷ 1 ∷ 0 ∷ 0 ∷ 0 ∷ 0 ∷ []))) ≡ map 3 3 2 (0 ∷ 0 ∷ 0 ∷ 0 ∷ 1 ∷ 0 ∷ 0 ∷ 0 ∷ 0 ∷ [])
  pub whole : is_file (file_of (map 2 1 2 (0 ∷ 1 ∷ []))) ≡ true
  pub cut : is_file (take 183 (file_of (map 2 1 2 (0 ∷ 1 ∷ [])))) ≡ false

pub worked : Worked
unfolding keep flat upto among label northwest picture same_dart to_x to_y turned left_at left right crack degree node way_on onward following meets ending walk fuel on visit trace row rows out corners nodes segments pixels label_of lesser lesser3 least rounds firsts backwards refs steps first_step last_step out_entry keeps successor turn region is_open next round enter discover contours insert sorted islands beside_at island_of face faces point_records seen word word_bytes bytes_of map_entry segment_entry contour_body face_body face_entry file_entries file_bytes file_of word_at words_of pairs body_length kind_of entry_size body rest entries heading steps_from steps_between steps_of of_kind references_in patch_of patches has bordered region_by paint_at paint_all painted same_bytes is_file
worked = record {
  pair = refl;
  pair_painted = refl;
  waste = refl;
  piece_painted = refl;
  rim_painted = refl;
  whole = refl;
  cut = refl;
}
