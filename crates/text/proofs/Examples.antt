-- Texts and what `textmap` prints for them, computed: the printed example, and odd input.
use Rattle.std.proofs.Common.{◌≡◌, [], ◌∷◌, refl}
use Rattle.rules.specs.Lists.{keep, flat, upto, among}
use Rattle.rules.specs.Picture.{seen, label, northwest, picture, same_dart, to_x, to_y, turned, left_at, left, right, crack, degree, node}
use Rattle.rules.specs.Graph.{way_on, onward, following, meets, ending, walk, fuel, on, visit, trace, row, rows, out, corners, nodes, segments}
use Rattle.rules.specs.Face.{pixels, label_of, lesser, lesser3, least, rounds, firsts, backwards, refs, steps, first_step, last_step, out_entry, keeps, successor, turn, region, is_open, next, round, enter, discover, contours, insert, sorted, islands, beside_at, island_of, face, faces}
use Rattle.rules.specs.Records.{node_record, node_words, node_at, point_records, point_words, segment_words, contours_of, contour_words, face_words}
use Rattle.rules.specs.Calls.{cuts, cut_list, counted}
use Rattle.text.specs.Bytes.{bytes}
use Rattle.text.specs.Grammar.{digits, decimal, at_most, label as entry, longer, up_to, before, reading, read_number, more_digits, read_label, entries, line, after, lines, read_header}
use Rattle.text.specs.Parse.{whole, body, small, parsed}
use Rattle.text.specs.Mark.{summed, eastward, step_east, segment_east, reference_east, contour_east, outlined}
use Rattle.text.specs.Output.{shown_in, shown, field, optional, way, reference, point, field_at, optional_at, reference_at, point_at, pieces, map_line, count_line, node_line, seg_line, letter, cont_line, face_lines, report}
use Rattle.text.specs.Program.{printed, answered, textmap}

pub record Examples : Type 0 where
  pub example : textmap (bytes "2 1 2\n0 1\n") ≡ flat (
      bytes "map 2 1 2\n" ∷
      bytes "count 2 3 10 4 2 2 7\n" ∷
      bytes "node 0 1 0 - 0f 1f 2f\n" ∷
      bytes "node 1 1 1 1r 0r - 2r\n" ∷
      bytes "seg 0 0 1 . 1 1 3 1,0 2,0 2,1 1,1\n" ∷
      bytes "seg 1 0 1 1 0 2 2 1,0 1,1\n" ∷
      bytes "seg 2 0 1 0 . 3 1 1,0 0,0 0,1 1,1\n" ∷
      bytes "face 0 0 1 0 0\n" ∷
      bytes "cont O 1r 2f\n" ∷
      bytes "face 1 1 1 1 0\n" ∷
      bytes "cont O 0r 1f\n" ∷ [])
  -- a map of width 0 has its empty lines, and one of height 0 none
  pub narrow : textmap (bytes "0 2 3\n\n\n") ≡ bytes "map 0 2 3\ncount 0 0 0 0 0 0 0\n"
  pub low : textmap (bytes "3 0 4294967295\n") ≡ bytes "map 3 0 4294967295\ncount 0 0 0 0 0 0 0\n"
  -- a side above 16 in a readable header goes before all that follows it
  pub wide : textmap (bytes "17 1 2\nx") ≡ bytes "too big\n"
  pub tall : textmap (bytes "1 17 4294967295\n") ≡ bytes "too big\n"
  -- but not before a header that is not readable
  pub leading_zero : textmap (bytes "17 1 02\n") ≡ bytes "bad text\n"
  pub many_paints : textmap (bytes "1 17 4294967296\n") ≡ bytes "bad text\n"
  -- OUTSIDE is no number
  pub outside : textmap (bytes "1 1 1\n.\n") ≡ bytes "map 1 1 1\ncount 0 0 0 0 0 0 0\n"
  pub large_label : textmap (bytes "1 1 1\n4294967295\n") ≡ bytes "bad text\n"
  -- empty text, no final newline, a line too many, two spaces, a carriage return
  pub empty : textmap [] ≡ bytes "bad text\n"
  pub unended : textmap (bytes "2 1 2\n0 1") ≡ bytes "bad text\n"
  pub line_more : textmap (bytes "2 1 2\n0 1\n\n") ≡ bytes "bad text\n"
  pub two_spaces : textmap (bytes "2 1 2\n0  1\n") ≡ bytes "bad text\n"
  pub carriage_return : textmap (bytes "2 1 2\r\n0 1\r\n") ≡ bytes "bad text\n"

pub examples : Examples
unfolding keep flat upto among seen label northwest picture same_dart to_x to_y turned left_at left right crack degree node way_on onward following meets ending walk fuel on visit trace row rows out corners nodes segments pixels label_of lesser lesser3 least rounds firsts backwards refs steps first_step last_step out_entry keeps successor turn region is_open next round enter discover contours insert sorted islands beside_at island_of face faces node_record node_words node_at point_records point_words segment_words contours_of contour_words face_words cuts cut_list counted digits decimal at_most entry longer up_to before reading read_number more_digits read_label entries line after lines read_header whole body small parsed shown_in shown field optional way reference point field_at optional_at reference_at point_at pieces map_line count_line node_line seg_line summed eastward step_east segment_east reference_east contour_east outlined letter cont_line face_lines report printed answered textmap
examples = record {
  example = refl;
  narrow = refl;
  low = refl;
  wide = refl;
  tall = refl;
  leading_zero = refl;
  many_paints = refl;
  outside = refl;
  large_label = refl;
  empty = refl;
  unended = refl;
  line_more = refl;
  two_spaces = refl;
  carriage_return = refl;
}
