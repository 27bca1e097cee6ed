-- How many faces there are, and how many contours and references they have: as many as there are painted islands, contours, and references.
use Prim.Native.Nat.{ℕ, ◌*◌, ◌≤◌}
use mathlib.Core.Bool.{◌&&◌}
use mathlib.Core.Path.{◌≡◌, ◌∙◌}
use mathlib.Core.List.{List}
use native.Mathlib.Omega.{arith}
use lib.Dec.{ltb, eqb}
use lib.ListN.{length, get_or, length-map}
use Rattle.rules.specs.Lists.{flat}
use Rattle.rules.specs.Picture.{Picture, OUTSIDE, Dart}
use Rattle.rules.specs.Face.{pixels, label_of, firsts, contours, islands, face, faces}
use Rattle.rules.specs.Records.{contours_of}
use Rattle.rules.specs.Describes.{Describes}
use Rattle.rules.proofs.Ground.Lists.{keep_few, length_upto}
use Rattle.rules.proofs.Ground.Pigeonhole.{rearranged_length}
use Rattle.rules.proofs.Lattice.Frame.{Framed}
use Rattle.rules.proofs.Ground.Sums.{rearranged_flat}
use Rattle.rules.proofs.Faces.FirstPixels.{first_pixels, firsts_all}
use Rattle.rules.proofs.Faces.Faced.{faced}

pub faces_count : (P : Picture) (ss : List (List Dart)) (paints : ℕ) → length (faces P ss paints) ≡ length (islands P paints)
unfolding faces
faces_count P ss paints = length-map (first_pixels P paints) (face P ss (contours P ss paints)) ∙ rearranged_length (firsts_all P paints)

pub faces_pixels : (P : Picture) (ss : List (List Dart)) (paints : ℕ) → length (faces P ss paints) ≤ P.w * P.h
unfolding islands pixels
faces_pixels P ss paints =
    omega (arith, faces_count P ss paints, keep_few (λ p. ltb (label_of P p) paints && eqb (get_or (firsts P) p 0) p) (pixels P), length_upto (P.w * P.h) 0)

module _ {P : Picture} (F : Framed P) {ss : List (List Dart)} (D : Describes P ss) {paints : ℕ} (b : paints ≤ OUTSIDE) where
  pub contours_count : length (contours_of (faces P ss paints)) ≡ length (contours P ss paints)
  contours_count = rearranged_length (faced F D b).arranged

  pub references_count : length (flat (contours_of (faces P ss paints))) ≡ length (flat (contours P ss paints))
  references_count = rearranged_flat (faced F D b).arranged
