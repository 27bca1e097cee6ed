-- How much veneer is in each piece (request #101): a face's sum is its island's pixel count, and all sums together the number of painted pixels.
use Prim.Native.Nat.{ℕ, ◌+◌, ◌*◌, ◌<◌, ◌≤◌}
use mathlib.Core.Path.{◌≡◌, refl, sym, ap, ◌∙◌}
use mathlib.Core.List.{List, [], ◌∷◌, map, Memᴰ as In}
use native.Mathlib.Omega.{arith}
use lib.Dec.{ltb}
use lib.IntN.{pos, ◌+ℤ◌, +ℤ_idr, +ℤ_invl}
use lib.ListN.{length, get_or, length-append}
use borrow.Author.Tests.{ltb-true, lt-ltb}
use Rattle.rules.specs.Lists.{flat, Distinct, upto}
use Rattle.rules.specs.Picture.{Picture, OUTSIDE, Dart}
use Rattle.rules.specs.declared.Dir.{Dir}
use Rattle.rules.specs.declared.Dir.TheVariants.{N, E, S, W}
use Rattle.rules.specs.Face.{pixels, label_of, firsts, sides, contours, Face, face, faces}
use Rattle.rules.specs.Calls.{Map, picture_of, Accepted}
use Rattle.rules.specs.Graph.{segments}
use Rattle.veneer.specs.Sums.{total, signed_of, signed, contour_sum, face_sum, sums, painted_pixels}
use Rattle.rules.proofs.Ground.Lists.{map_same, keep_in, in_keep, keep_distinct, upto_in, in_upto, upto_distinct, flat_map_in, in_flat_map, flat_map_distinct}
use Rattle.rules.proofs.Ground.Pigeonhole.{Rearranged, rearranged_length}
use Rattle.rules.proofs.Lattice.Frame.{Framed, picture_framed}
use Rattle.rules.proofs.Tracing.Partition.{describes}
use Rattle.rules.specs.Describes.{Describes}
use Rattle.rules.proofs.Islands.Members.{pixels_of, own, in_own}
use Rattle.rules.proofs.Faces.FirstPixels.{first_pixels, first_in_lem, in_firsts, firsts_distinct, first_of_lem}
use Rattle.rules.proofs.Faces.Faced.{IsFace, faced}
use Rattle.rules.proofs.Faces.FaceSides.{face_sides, face_sides_once, face_side, side_face}
use Rattle.rules.proofs.Ground.Sums.{sum, sum_map}
use Rattle.veneer.proofs.Integers.{total_flat, total_map, total_pos, total_difference, difference}
use Rattle.veneer.proofs.Rims.{own_distinct, own_label}
use Rattle.veneer.proofs.Area.{east_of, west_of, east, west, area}

pub signed_of_lem : (d : Dir) (y : ℕ) → signed_of d y +ℤ pos (west_of d y) ≡ pos (east_of d y)
signed_of_lem N y = refl
signed_of_lem E y = +ℤ_idr (pos y)
signed_of_lem S y = refl
signed_of_lem W y = +ℤ_invl (pos y)

module _ {P : Picture} (F : Framed P) {ss : List (List Dart)} (D : Describes P ss) {paints : ℕ} (b : paints ≤ OUTSIDE) where
  module _ (f : Face) (i : In f (faces P ss paints)) where
    is_face : IsFace P ss paints f
    is_face = (faced F D b).face f i

    -- in natural numbers
    pub face_area : sum east (face_sides ss f) ≡ sum west (face_sides ss f) + length (pixels_of P f.first)
    face_area =
        let l = is_face.painted in
        let e = is_face.label in
        area F f.first (λ z. omega arith) (face_sides ss f) (face_sides_once F D b f i) (face_side F D b f i) (side_face F D b f i)

    pub face_sum_lem : face_sum ss f ≡ pos (length (pixels_of P f.first))
    unfolding face_sum contour_sum
    face_sum_lem =
        let l = face_sides ss f in
        let t = total_difference signed east west (λ a. signed_of_lem a.d a.y) l in
        let n = length (pixels_of P f.first) in
        let e : sum east l ≡ n + sum west l = omega (arith, face_area) in
        sym (total_map (total signed) (sides ss) f.contours) ∙ sym (total_flat signed (map (sides ss) f.contours))
        ∙ difference (total signed l) (sum west l) n (t ∙ ap pos e)

  -- ALL TOGETHER

  all_in : (q : ℕ) → In q (flat (map (pixels_of P) (first_pixels P paints))) → In q (painted_pixels P paints)
  unfolding painted_pixels pixels
  all_in q i =
      let k = flat_map_in (pixels_of P) (first_pixels P paints) q i in
      let f = first_in_lem P paints k.0 k.1 in
      let l = f.painted in
      let n : label_of P k.0 ≡ OUTSIDE → ⊥ = λ e. omega arith in
      let u = own P k.0 q k.2 in
      let e = own_label F k.0 n q k.2 in
      in_keep (λ q. ltb (label_of P q) paints) (upto (P.w * P.h) 0) q (lt-ltb (label_of P q) paints (omega arith)) (in_upto (P.w * P.h) 0 q (omega arith) (omega arith))

  in_all : (q : ℕ) → In q (painted_pixels P paints) → In q (flat (map (pixels_of P) (first_pixels P paints)))
  unfolding painted_pixels pixels
  in_all q i =
      let k = keep_in (λ q. ltb (label_of P q) paints) (upto (P.w * P.h) 0) q i in
      let u = upto_in (P.w * P.h) 0 q k.0 in
      let h : q < P.w * P.h = omega arith in
      let p = get_or (firsts P) q 0 in
      let f = first_of_lem F paints q h (ltb-true (label_of P q) paints k.1) in
      let l = f.painted in
      in_flat_map (pixels_of P) (first_pixels P paints) q p (in_firsts P paints p f) (in_own P p q h refl)

  all_once : Distinct (flat (map (pixels_of P) (first_pixels P paints)))
  all_once =
      flat_map_distinct (pixels_of P) (first_pixels P paints) (firsts_distinct P paints) (λ p i. own_distinct F p (inside p i))
      (λ q p r i j u v. sym (own P p q u).1 ∙ (own P r q v).1)
    where
      inside : (p : ℕ) → In p (first_pixels P paints) → label_of P p ≡ OUTSIDE → ⊥
      inside p i e = let l = (first_in_lem P paints p i).painted in omega arith

  -- the pixels of the painted islands are the painted pixels
  painted_all : Rearranged (flat (map (pixels_of P) (first_pixels P paints))) (painted_pixels P paints)
  unfolding painted_pixels pixels
  painted_all = record {
    first = all_once;
    second = keep_distinct (λ q. ltb (label_of P q) paints) (upto (P.w * P.h) 0) (upto_distinct (P.w * P.h) 0);
    into = all_in;
    onto = in_all;
  }

  length_all : {A : Type 0} (g : A → List ℕ) (l : List A) → sum (λ a. length (g a)) l ≡ length (flat (map g l))
  unfolding flat
  length_all g [] = refl
  length_all g (a ∷ l) = omega (arith, length_all g l, length-append (g a) (flat (map g l)))

  pixels_together : sum (λ f. length (pixels_of P f.first)) (faces P ss paints) ≡ length (painted_pixels P paints)
  unfolding faces face
  pixels_together =
      sum_map (λ f. length (pixels_of P f.first)) (face P ss (contours P ss paints)) (first_pixels P paints)
      ∙ length_all (pixels_of P) (first_pixels P paints) ∙ rearranged_length painted_all

  pub all_sums : total (face_sum ss) (faces P ss paints) ≡ pos (length (painted_pixels P paints))
  all_sums = total_pos (face_sum ss) (λ f. length (pixels_of P f.first)) (faces P ss paints) face_sum_lem ∙ ap pos pixels_together

-- OF A MAP

module _ (m : Map) (k : Accepted m) where
  abbrev P : Picture
  P = picture_of m

  abbrev framed : Framed P
  framed = picture_framed m.width m.height m.bound m.labels

  -- each face's sum is its island's pixel count
  pub sums_pixels : sums m ≡ map (λ f. pos (length (pixels_of P f.first))) (faces P (segments P) m.paints)
  unfolding sums
  sums_pixels = map_same (face_sum (segments P)) (λ f. pos (length (pixels_of P f.first))) (faces P (segments P) m.paints) (face_sum_lem framed (describes framed) k.word)

  -- all sums together are the number of painted pixels
  pub sums_together : total (λ n. n) (sums m) ≡ pos (length (painted_pixels P m.paints))
  unfolding sums
  sums_together = total_map (λ n. n) (face_sum (segments P)) (faces P (segments P) m.paints) ∙ all_sums framed (describes framed) k.word
