-- The counts of a cut list: what they count, their equations, and that all of them are words.
use Prim.Native.Nat.{ℕ, suc, ◌+◌, ◌*◌, ◌<◌, ◌≤◌}
use mathlib.Core.Path.{◌≡◌, refl}
use mathlib.Core.List.{List}
use native.Mathlib.Omega.{arith}
use native.Mathlib.Nat.{mul-le-mul, mul_assoc}
use lib.ListN.{length}
use Rattle.rules.specs.Lists.{flat}
use Rattle.rules.specs.Picture.{Picture, OUTSIDE, Dart, node}
use Rattle.rules.specs.Graph.{corners, nodes, cracks}
use Rattle.rules.specs.Describes.{Describes}
use Rattle.rules.specs.Face.{Face, faces}
use Rattle.rules.specs.Records.{contours_of}
use Rattle.rules.specs.Calls.{cuts, Answer, counted}
use Rattle.rules.proofs.Ground.Lists.{keep_few}
use Rattle.rules.proofs.Lattice.Frame.{Framed}
use Rattle.rules.proofs.Lattice.Grid.{length_rows}
use Rattle.rules.proofs.Tracing.Counts.{step_count_lem, has_step, segment_count_lem, crack_count}
use Rattle.rules.proofs.Contours.Few.{contours_few}
use Rattle.rules.proofs.Contours.Painted.{painted, contour_count, reference_count}
use Rattle.rules.proofs.Faces.Faced.{faced, faces_few}
use Rattle.rules.proofs.Faces.Counts.{faces_pixels, contours_count, references_count}
use Rattle.rules.proofs.CutList.Lengths.{length_nodes, length_segments, length_points, length_contours, length_faces}

-- the counts are the numbers of the records, and steps the number of cracks
pub record Counts (P : Picture) (ss : List (List Dart)) (fs : List Face) (a : Answer) : Type 0 where
  pub nodes : a.nodes ≡ length (nodes P)
  pub segments : a.segments ≡ length ss
  pub points : a.points ≡ length (cracks P) + length ss
  pub references : a.references ≡ length (flat (contours_of fs))
  pub contours : a.contours ≡ length (contours_of fs)
  pub faces : a.faces ≡ length fs
  pub steps : a.steps ≡ length (cracks P)

module _ {P : Picture} (F : Framed P) {ss : List (List Dart)} (D : Describes P ss) where
  pub counts : (fs : List Face) (n : ℕ) → Counts P ss fs (counted n (cuts P ss fs))
  unfolding cuts counted
  counts fs n = record {
    nodes = omega (arith, length_nodes ss (nodes P));
    segments = omega (arith, length_segments P 0 ss);
    points = omega (arith, length_points ss (has_step F D), step_count_lem F D);
    references = refl;
    contours = omega (arith, length_contours 0 (contours_of fs));
    faces = omega (arith, length_faces P.w 0 fs);
    steps = step_count_lem F D;
  }

-- HOW MANY AT MOST

pub node_count_lem : (P : Picture) → length (nodes P) ≤ suc P.h * suc P.w
unfolding nodes corners
node_count_lem P = omega (arith, keep_few (λ c. node P c.0 c.1) (corners P), length_rows (suc P.w) (suc P.h) 0)

pub record Bounds (P : Picture) (a : Answer) : Type 0 where
  pub nodes : a.nodes ≤ suc P.h * suc P.w
  pub steps : a.steps ≤ 2 * P.w * P.h + P.w + P.h
  pub segments : a.segments ≤ a.steps
  pub points : a.points ≡ a.steps + a.segments
  pub references : a.references ≤ 2 * a.segments
  pub contours : a.contours ≤ a.references
  pub contours_few : a.contours ≤ suc P.h * suc P.w
  pub faces : a.faces ≤ a.contours
  pub faces_few : a.faces ≤ P.w * P.h

-- every count, and twice the segments, which no reference reaches, is below the word that says none
pub record Words (a : Answer) : Type 0 where
  pub nodes : a.nodes < OUTSIDE
  pub points : a.points < OUTSIDE
  pub references : 2 * a.segments < OUTSIDE
  pub steps : a.steps < OUTSIDE

pub words_fit : {P : Picture} {a : Answer} → P.w ≤ 16384 → P.h ≤ 16384 → Bounds P a → Words a
words_fit {P} {a} w h b =
    let area = mul-le-mul w h in
    let two = mul_assoc 2 P.w P.h in
    record {
      nodes = omega (arith, b.nodes, area);
      points = omega (arith, b.points, b.segments, b.steps, area, two);
      references = omega (arith, b.segments, b.steps, area, two);
      steps = omega (arith, b.steps, area, two);
    }

module _ {P : Picture} (F : Framed P) {ss : List (List Dart)} (D : Describes P ss) {paints : ℕ} (b : paints ≤ OUTSIDE) where
  abbrev fs : List Face
  fs = faces P ss paints

  pub bounds : (n : ℕ) → Bounds P (counted n (cuts P ss fs))
  bounds n =
      let k = counts F D fs n in
      let p = painted F D paints b in
      record {
        nodes = omega (arith, k.nodes, node_count_lem P);
        steps = omega (arith, k.steps, crack_count F);
        segments = omega (arith, k.segments, k.steps, segment_count_lem F D);
        points = omega (arith, k.points, k.steps, k.segments);
        references = omega (arith, k.references, k.segments, reference_count p, references_count F D b);
        contours = omega (arith, k.contours, k.references, contour_count p, references_count F D b, contours_count F D b);
        contours_few = omega (arith, k.contours, contours_few F paints D b, contours_count F D b);
        faces = omega (arith, k.faces, k.contours, faces_few (faced F D b));
        faces_few = omega (arith, k.faces, faces_pixels P ss paints);
      }
