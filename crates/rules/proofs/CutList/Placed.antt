-- The words x and y of a face's record: the first pixel, row by row, of the face's island.
use Prim.Native.Nat.{ℕ, zero, suc, ◌+◌, ◌*◌, ◌/◌, ◌%◌, ◌<◌, ◌≤◌}
use mathlib.Core.Path.{◌≡◌, refl, subst, subst₂, ◌∙◌, sym}
use mathlib.Core.Logic.{◌⊎◌, inl, inr}
use mathlib.Core.List.{List, [], ◌∷◌, Memᴰ as In}
use native.Mathlib.Omega.{arith}
use native.Mathlib.Nat.{div-add-mod', mul-le-mul_right, suc-mul}
use native.Mathlib.Decide.{dec_lt}
use lib.ListN.{length, get_or}
use Rattle.rules.specs.Picture.{Picture, OUTSIDE, Dart}
use Rattle.rules.specs.Face.{label_of, sides, Face, faces, beside}
use Rattle.rules.specs.Records.{face_words}
use Rattle.rules.specs.Calls.{cuts}
use Rattle.rules.specs.Describes.{Describes}
use Rattle.rules.proofs.Ground.Lists.{in_at}
use Rattle.rules.proofs.Lattice.Frame.{Framed}
use Rattle.rules.proofs.Islands.Pixels.{column_in, row_in}
use Rattle.rules.proofs.Islands.Joined.{Joined}
use Rattle.rules.proofs.Islands.Firsts.{firsts_in, firsts_least}
use Rattle.rules.proofs.Islands.Beside.{beside_in}
use Rattle.rules.proofs.Faces.Faced.{IsFace, faced}

pub record Placed (P : Picture) (ss : List (List Dart)) (f : Face) (x y : ℕ) : Type 0 where
  -- a pixel of the map, with the face's label
  pub across : x < P.w
  pub down : y < P.h
  pub label : P.nw (suc x) (suc y) ≡ f.region
  -- of the face's island: a chain of equal labels leads to it from the pixel on the left of each side of the face
  pub inside : (c : List ℕ) → In c f.contours → (a : Dart) → In a (sides ss c) → Joined P (beside P a) (y * P.w + x)
  -- and of all that such a chain leads to it comes first: by row, and then by column
  pub least : (u v : ℕ) → u < P.w → v < P.h → Joined P (y * P.w + x) (v * P.w + u) → (y < v) ⊎ ((y ≡ v) × (x ≤ u))

-- a smaller number comes first
by_rows : (w x y u v : ℕ) → u < w → y * w + x ≤ v * w + u → (y < v) ⊎ ((y ≡ v) × (x ≤ u))
by_rows w x y u v h k = go (dec_lt y v) (dec_lt v y)
  where
    go : Dec (y < v) → Dec (v < y) → (y < v) ⊎ ((y ≡ v) × (x ≤ u))
    go (yes i) d = inl i
    go (no i) (yes j) = absurd (omega (arith, mul-le-mul_right w j, suc-mul v w))
    go (no i) (no j) = let e : y ≡ v = omega arith in inr (e, omega (arith, rw e at k))

module _ {P : Picture} (F : Framed P) {ss : List (List Dart)} {paints : ℕ} (b : paints ≤ OUTSIDE) {f : Face} (k : IsFace P ss paints f) where
  number : f.first / P.w * P.w + f.first % P.w ≡ f.first
  number = div-add-mod' f.first P.w

  placed : Placed P ss f (f.first % P.w) (f.first / P.w)
  unfolding label_of
  placed = record {
    across = column_in P.w P.h f.first k.on;
    down = row_in P.w P.h f.first k.on;
    label = k.label;
    inside = λ c i a j.
        let o : beside P a < P.w * P.h = beside_in F a (λ e. omega (arith, k.lefts c i a j, k.painted)) in
        subst (Joined P (beside P a)) (k.inside c i a j ∙ sym number) (firsts_in P F (beside P a) o);
    least = λ u v hu hv j.
        by_rows P.w (f.first % P.w) (f.first / P.w) u v hu
        (omega (arith, number, k.least, firsts_least P F f.first k.on (v * P.w + u) (subst (λ p. Joined P p (v * P.w + u)) number j)));
  }

-- the two words of face k
words_are : (w i : ℕ) (fs : List Face) (k : ℕ) (none : Face) → k < length fs
    → (get_or (face_words w i fs) (5 * k + 3) 0 ≡ (get_or fs k none).first % w) × (get_or (face_words w i fs) (5 * k + 4) 0 ≡ (get_or fs k none).first / w)
unfolding face_words
words_are w i [] k none h = absurd (omega arith)
words_are w i (f ∷ fs) zero none h = (refl, refl)
words_are w i (f ∷ fs) (suc k) none h =
    let a : 5 * suc k + 3 ≡ suc (suc (suc (suc (suc (5 * k + 3))))) = omega arith in
    let b : 5 * suc k + 4 ≡ suc (suc (suc (suc (suc (5 * k + 4))))) = omega arith in
    rw (a, b) (words_are w (i + length f.contours) fs k none (omega arith))

module _ {P : Picture} (F : Framed P) {ss : List (List Dart)} (D : Describes P ss) {paints : ℕ} (b : paints ≤ OUTSIDE) where
  pub placed_words : (k : ℕ) (none : Face) → k < length (faces P ss paints)
      → let ws = (cuts P ss (faces P ss paints)).faces in Placed P ss (get_or (faces P ss paints) k none) (get_or ws (5 * k + 3) 0) (get_or ws (5 * k + 4) 0)
  unfolding cuts
  placed_words k none h =
      let fs = faces P ss paints in
      let e = words_are P.w 0 fs k none h in
      subst₂ (Placed P ss (get_or fs k none)) (sym e.0) (sym e.1) (placed F b ((faced F D b).face (get_or fs k none) (in_at fs k none h)))
