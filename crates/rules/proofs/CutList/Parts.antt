-- The parts that the records of a cut list name fill the next store: the segments' points, the contours' references and the faces' contours.
use Prim.Native.Nat.{ℕ, suc, ◌+◌, ◌*◌}
use mathlib.Core.Path.{◌≡◌, refl, ap, ◌∙◌}
use mathlib.Core.List.{List, [], ◌∷◌}
use native.Mathlib.Omega.{arith}
use lib.ListN.{length, get_or, length-append}
use Rattle.rules.specs.Lists.{flat, upto}
use Rattle.rules.specs.Picture.{Picture, Dart}
use Rattle.rules.specs.Face.{Face}
use Rattle.rules.specs.Records.{segment_words, contours_of, contour_words, face_words}
use Rattle.rules.proofs.Ground.Lists.{upto_split}
use Rattle.rules.proofs.Ground.Sums.{sum, sum_append, sum_even, sum_next}

-- records of one size: what each from the second on counts for is what those behind the first count for
later : (f g : ℕ → ℕ) (n : ℕ) → ((i : ℕ) → f (suc i) ≡ g i) → sum f (upto n 1) ≡ sum g (upto n 0)
later f g n h = sum_next f n 0 ∙ sum_even (λ i. f (suc i)) g (upto n 0) (λ i m. h i)

pub segments_fill : (P : Picture) (p : ℕ) (ss : List (List Dart)) → sum (λ i. get_or (segment_words P p ss) (8 * i + 1) 0) (upto (length ss) 0) ≡ length (flat ss) + length ss
unfolding segment_words flat upto
segments_fill P p [] = refl
segments_fill P p (s ∷ ss) =
    omega (
      arith,
      later (λ i. get_or (segment_words P p (s ∷ ss)) (8 * i + 1) 0) (λ i. get_or (segment_words P (p + suc (length s)) ss) (8 * i + 1) 0) (length ss)
          (λ i. let z : 8 * suc i + 1 ≡ suc (suc (suc (suc (suc (suc (suc (suc (8 * i + 1)))))))) = omega arith in rw z),
      segments_fill P (p + suc (length s)) ss,
      length-append s (flat ss),
    )

pub contours_fill : (a : ℕ) (cs : List (List ℕ)) → sum (λ k. get_or (contour_words a cs) (2 * k + 1) 0) (upto (length cs) 0) ≡ length (flat cs)
unfolding contour_words flat upto
contours_fill a [] = refl
contours_fill a (c ∷ cs) =
    omega (
      arith,
      later (λ k. get_or (contour_words a (c ∷ cs)) (2 * k + 1) 0) (λ k. get_or (contour_words (a + length c) cs) (2 * k + 1) 0) (length cs)
          (λ k. let z : 2 * suc k + 1 ≡ suc (suc (2 * k + 1)) = omega arith in rw z),
      contours_fill (a + length c) cs,
      length-append c (flat cs),
    )

-- whatever is counted of each contour
module _ (g : ℕ → ℕ) where
  -- of the contours of the face i
  abbrev pub of_face : List ℕ → ℕ → ℕ
  of_face ws i = sum g (upto (get_or ws (5 * i + 2) 0) (get_or ws (5 * i + 1) 0))

  pub faces_fill : (w a : ℕ) (fs : List Face) → sum (of_face (face_words w a fs)) (upto (length fs) 0) ≡ sum g (upto (length (contours_of fs)) a)
  unfolding face_words contours_of flat upto
  faces_fill w a [] = refl
  faces_fill w a (f ∷ fs) =
      let n = length f.contours in
      omega (
        arith,
        later (of_face (face_words w a (f ∷ fs))) (of_face (face_words w (a + n) fs)) (length fs)
            (λ i.
            let p : 5 * suc i + 2 ≡ suc (suc (suc (suc (suc (5 * i + 2))))) = omega arith in
            let q : 5 * suc i + 1 ≡ suc (suc (suc (suc (suc (5 * i + 1))))) = omega arith in
            rw (p, q)),
        faces_fill w (a + n) fs,
        ap (λ (m : ℕ). sum g (upto m a)) (length-append f.contours (contours_of fs)),
        ap (sum g) (upto_split n (length (contours_of fs)) a),
        sum_append g (upto n a) (upto (length (contours_of fs)) (a + n)),
      )
