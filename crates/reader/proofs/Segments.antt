-- THE THEOREM of the reader: a segment of a cut list, read by the words of its record, gives its points in order, reversed backwards, and then the
-- end for ever.
use Prim.Native.Nat.{ℕ, zero, suc, ◌+◌, ◌*◌, ◌/◌, ◌≤◌, ◌<◌}
use mathlib.Core.Bool.{true, false}
use mathlib.Core.Path.{◌≡◌, refl, ap₂, ◌∙◌}
use mathlib.Core.List.{List, [], ◌∷◌, ◌++◌, reverse}
use native.Mathlib.Omega.{arith}
use lib.ListN.{length, get_or, drop, replicate, length-append, get_or-append}
use Rattle.rules.specs.Lists.{upto}
use Rattle.rules.specs.Picture.{Picture, Dart}
use Rattle.rules.specs.Graph.{segments}
use Rattle.rules.specs.Records.{point_records, point_words, segment_words}
use Rattle.rules.specs.Describes.{Describes}
use Rattle.rules.specs.Calls.{Map, picture_of, cuts, cut_list, graph_list, store_after}
use Rattle.rules.proofs.Ground.Lists.{in_at}
use Rattle.rules.proofs.Lattice.Frame.{Framed, picture_framed}
use Rattle.rules.proofs.Tracing.Partition.{describes}
use Rattle.rules.proofs.Tracing.Counts.{has_step}
use Rattle.rules.proofs.CutList.Lengths.{length_records, length_segments}
use Rattle.rules.proofs.CutList.Records.{first_point, record_of, segment_word_lem, point_word}
use Rattle.reader.specs.Reading.{Said, at_corner, at_end, reads}
use Rattle.reader.proofs.Runs.{part_of, run_forward, run_reversed}

-- the corners that point words are
unfoldable pub corners : List ℕ → List Said
corners [] = []
corners (x ∷ []) = []
corners (x ∷ y ∷ more) = at_corner x y ∷ corners more

-- what a segment is read as from the words of the segment store and the point store
pub record ReadBack (segs points : List ℕ) (i : ℕ) (s : List Dart) : Type 0 where
  pub forward : (more : ℕ)
      → reads points (get_or segs (8 * i) 0) (get_or segs (8 * i + 1) 0) false (get_or segs (8 * i + 1) 0 + more) 0
      ≡ corners (point_records s) ++ replicate more at_end
  pub reversed : (more : ℕ)
      → reads points (get_or segs (8 * i) 0) (get_or segs (8 * i + 1) 0) true (get_or segs (8 * i + 1) 0 + more) 0
      ≡ reverse (corners (point_records s)) ++ replicate more at_end

-- a part of a store whose words are l
part_corners : (ws l : List ℕ) (f n : ℕ) → length l ≡ 2 * n → ((k : ℕ) → k < 2 * n → get_or ws (2 * f + k) 0 ≡ get_or l k 0) → part_of ws f n ≡ corners l
unfolding corners upto
part_corners ws [] f zero e h = refl
part_corners ws [] f (suc n) e h = absurd (omega arith)
part_corners ws (x ∷ []) f n e h = absurd (omega arith)
part_corners ws (x ∷ y ∷ l) f zero e h = absurd (omega arith)
part_corners ws (x ∷ y ∷ l) f (suc n) e h =
    let z : 2 * f + 0 ≡ 2 * f = omega arith in
    let p : get_or ws (2 * f) 0 ≡ x = rw z at (h 0 (omega arith)) in
    let q : get_or ws (2 * f + 1) 0 ≡ y = h 1 (omega arith) in
    let rest : part_of ws (suc f) n ≡ corners l =
    part_corners ws l (suc f) n (omega arith) (λ k b. let j : 2 * suc f + k ≡ 2 * f + suc (suc k) = omega arith in rw j (h (suc (suc k)) (omega arith))) in
    ap₂ (λ (c : Said) (m : List Said). c ∷ m) (rw (p, q)) rest

-- OVER ANY SEGMENTS that describe a picture, and whatever follows their words in the stores
module _ {P : Picture} (F : Framed P) {ss : List (List Dart)} (D : Describes P ss) (after-segments after-points : List ℕ) (i : ℕ) (h : i < length ss) where
  abbrev segs : List ℕ
  segs = segment_words P 0 ss ++ after-segments

  abbrev points : List ℕ
  points = point_words ss ++ after-points

  abbrev s : List Dart
  s = get_or ss i []

  word : (k : ℕ) → k < 8 → get_or segs (8 * i + k) 0 ≡ get_or (record_of P (first_point ss i) s) k 0
  word k b =
      get_or-append (segment_words P 0 ss) after-segments 0 (8 * i + k) (omega (arith, length_segments P 0 ss))
      ∙ segment_word_lem P ss 0 i k (first_point ss i) (omega arith) h b

  pub first : get_or segs (8 * i) 0 ≡ first_point ss i
  unfolding record_of
  first = let z : 8 * i + 0 ≡ 8 * i = omega arith in rw z at (word 0 (omega arith))

  pub count : get_or segs (8 * i + 1) 0 ≡ suc (length s)
  unfolding record_of
  count = word 1 (omega arith)

  pub inside : first_point ss i + suc (length s) ≤ length points / 2
  inside =
      let last = (point_word (suc (2 * length s)) ss (has_step F D) i h (omega arith)).0 in
      omega (arith, last, length-append (point_words ss) after-points)

  part : part_of points (first_point ss i) (suc (length s)) ≡ corners (point_records s)
  part =
      part_corners points (point_records s) (first_point ss i) (suc (length s)) (length_records s (has_step F D s (in_at ss i [] h)))
      (λ k b.
      let w = point_word k ss (has_step F D) i h b in
      get_or-append (point_words ss) after-points 0 (2 * first_point ss i + k) w.0 ∙ w.1)

  pub read_back : ReadBack segs points i s
  read_back = record {
    forward = λ more. rw (first, count, ← part) (run_forward points (first_point ss i) (suc (length s)) inside more);
    reversed = λ more. rw (first, count, ← part) (run_reversed points (first_point ss i) (suc (length s)) inside more);
  }

-- THE CALLS: the segment store and the point store as `whole` or `graph` leaves them when it answers 0

module _ (m : Map) (segs points : List ℕ) (i : ℕ) (h : i < length (segments (picture_of m))) where
  abbrev F : Framed (picture_of m)
  F = picture_framed m.width m.height m.bound m.labels

  pub whole_read_back : ReadBack (store_after 0 (cut_list m).segments segs) (store_after 0 (cut_list m).points points) i (get_or (segments (picture_of m)) i [])
  unfolding cut_list cuts store_after
  whole_read_back = read_back F (describes F) (drop (length (cut_list m).segments) segs) (drop (length (cut_list m).points) points) i h

  pub graph_read_back : ReadBack (store_after 0 (graph_list m).segments segs) (store_after 0 (graph_list m).points points) i (get_or (segments (picture_of m)) i [])
  unfolding graph_list cuts store_after
  graph_read_back = read_back F (describes F) (drop (length (graph_list m).segments) segs) (drop (length (graph_list m).points) points) i h
