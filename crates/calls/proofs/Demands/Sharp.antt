-- Beside demand 3: its conclusion can't be strengthened, and none of its hypotheses can be left out. One pixel is enough, or two.
use Prim.Native.Nat.{ℕ, zero, suc, ◌+◌, ◌*◌, ◌≤◌}
use mathlib.Core.Path.{◌≡◌, refl, sym, ◌∙◌}
use mathlib.Core.Logic.{inl, inr}
use mathlib.Core.List.{[], ◌∷◌}
use native.Mathlib.Omega.{arith}
use lib.ListN.{length, get_or-eq_default}
use Rattle.rules.specs.Lists.{keep, flat, upto, among}
use Rattle.rules.specs.Picture.{OUTSIDE, seen, label, northwest, picture, same_dart, to_x, to_y, turned, left_at, left, right, crack, degree, node}
use Rattle.rules.specs.Graph.{way_on, onward, following, meets, ending, walk, fuel, on, visit, trace, row, rows, out, corners, nodes, segments}
use Rattle.rules.specs.Face.{pixels, label_of, lesser, lesser3, least, rounds, firsts, backwards, refs, steps, first_step, last_step, out_entry, keeps, successor, turn, region, is_open, next, round, enter, discover, contours, insert, sorted, islands, beside_at, island_of, face, faces}
use Rattle.rules.specs.Records.{node_record, node_words, node_at, point_records, point_words, segment_words, contours_of, contour_words, face_words, unplaced}
use Rattle.rules.specs.Calls.{Map, CutList, cuts, cut_list, label_at}
use Rattle.rules.proofs.CutList.Agree.{Alike}
use Rattle.rules.proofs.CutList.Unshared.{points_of, SameCuts}
use Rattle.calls.specs.Outcome.{map_with}

abbrev pixel : ℕ → Map
pixel a = map_with 1 1 1 OUTSIDE (a ∷ [])

abbrev pair : ℕ → ℕ → Map
pair a b = map_with 2 1 1 OUTSIDE (a ∷ b ∷ [])

-- the demand's conclusion fails at the pixel (0, 0)
abbrev Apart : Map → Map → Type 0
Apart m n = Alike 1 (label_at m 0 0) (label_at n 0 0) → ⊥

-- equal in all that the demand compares but one thing
pub record ButPoints (l m : CutList) : Type 0 where
  pub references : l.references ≡ m.references
  pub contours : l.contours ≡ m.contours
  pub faces : unplaced l.faces ≡ unplaced m.faces

pub record ButReferences (l m : CutList) : Type 0 where
  pub points : l.points ≡ m.points
  pub contours : l.contours ≡ m.contours
  pub faces : unplaced l.faces ≡ unplaced m.faces

pub record Sharp : Type 0 where
  -- two unpainted labels share a cut list: where no label is painted, the labels need not be equal
  pub shared : SameCuts (cut_list (pixel 1)) (cut_list (pixel 2))
  pub other_labels : label_at (pixel 1) 0 0 ≡ label_at (pixel 2) 0 0 → ⊥
  -- equal points but other faces: a painted pixel, and an unpainted one
  pub same_points : (cut_list (pixel 0)).points ≡ (cut_list (pixel 1)).points
  pub faces_needed : Apart (pixel 0) (pixel 1)
  -- equal faces but other points: the painted pixel on the left, and on the right
  pub but_points : ButPoints (cut_list (pair 0 OUTSIDE)) (cut_list (pair OUTSIDE 0))
  pub points_needed : Apart (pair 0 OUTSIDE) (pair OUTSIDE 0)
  -- equal but for the references: the painted one of two pixels on the left, and on the right
  pub but_references : ButReferences (cut_list (pair 0 1)) (cut_list (pair 1 0))
  pub references_needed : Apart (pair 0 1) (pair 1 0)

-- two pixels: the crack between them, and a way round each
abbrev Pair : ℕ → ℕ → Type 0
Pair a b =
    ((cut_list (pair a b)).points ≡ 1 ∷ 0 ∷ 2 ∷ 0 ∷ 2 ∷ 1 ∷ 1 ∷ 1 ∷ 1 ∷ 0 ∷ 1 ∷ 1 ∷ 1 ∷ 0 ∷ 0 ∷ 0 ∷ 0 ∷ 1 ∷ 1 ∷ 1 ∷ [])
    × ((cut_list (pair a b)).contours ≡ 0 ∷ 2 ∷ []) × (unplaced (cut_list (pair a b)).faces ≡ 0 ∷ 0 ∷ 1 ∷ [])

-- what the rules compute on these maps
record Computed : Type 0 where
  -- an unpainted pixel has one segment, a ring
  one : length (cut_list (pixel 1)).segments ≡ 8
  other : length (cut_list (pixel 2)).segments ≡ 8
  same_ring : points_of (cut_list (pixel 1)) 0 ≡ points_of (cut_list (pixel 2)) 0
  no_face_lem : ButPoints (cut_list (pixel 1)) (cut_list (pixel 2))
  same_points : (cut_list (pixel 0)).points ≡ (cut_list (pixel 1)).points
  same_faces : ButPoints (cut_list (pair 0 OUTSIDE)) (cut_list (pair OUTSIDE 0))
  left_painted : Pair 0 1
  right_painted : Pair 1 0

computed : Computed
unfolding keep flat upto among seen label northwest picture same_dart to_x to_y turned left_at left right crack degree node way_on onward following meets ending walk fuel on visit trace row rows out corners nodes segments pixels label_of lesser lesser3 least rounds firsts backwards refs steps first_step last_step out_entry keeps successor turn region is_open next round enter discover contours insert sorted islands beside_at island_of face faces node_record node_words node_at point_records point_words segment_words contours_of contour_words face_words unplaced cuts cut_list
computed = record {
  one = refl;
  other = refl;
  same_ring = refl;
  no_face_lem = record { references = refl; contours = refl; faces = refl };
  same_points = refl;
  same_faces = record { references = refl; contours = refl; faces = refl };
  left_painted = (refl, refl, refl);
  right_painted = (refl, refl, refl);
}

-- no points where there is no segment
beyond : (l : CutList) (i : ℕ) → length l.segments ≤ 8 * i → points_of l i ≡ []
beyond l i h = rw (get_or-eq_default l.segments 0 {n = 8 * i + 1} (omega arith))

ring_points : (i : ℕ) → points_of (cut_list (pixel 1)) i ≡ points_of (cut_list (pixel 2)) i
ring_points zero = computed.same_ring
ring_points (suc i) = beyond (cut_list (pixel 1)) (suc i) (omega (arith, computed.one)) ∙ sym (beyond (cut_list (pixel 2)) (suc i) (omega (arith, computed.other)))

-- a painted label is like none but itself
painted_once : (b : ℕ) → 1 ≤ b → Alike 1 0 b → ⊥
painted_once b h (inl p) = let e = p.0 in omega arith
painted_once b h (inr p) = let e = p.0 in omega arith

pub sharp : Sharp
unfolding seen
sharp =
    let none = computed.no_face_lem in
    let left = computed.left_painted in
    let right = computed.right_painted in
    record {
      shared = record { points = ring_points; references = none.references; contours = none.contours; faces = none.faces };
      other_labels = λ e. omega arith;
      same_points = computed.same_points;
      faces_needed = painted_once 1 (omega arith);
      but_points = computed.same_faces;
      points_needed = painted_once OUTSIDE (omega arith);
      but_references = record { points = left.0 ∙ sym right.0; contours = left.1 ∙ sym right.1; faces = left.2 ∙ sym right.2 };
      references_needed = painted_once 1 (omega arith);
    }
