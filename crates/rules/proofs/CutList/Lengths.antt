-- How many words the records of a cut list are.
use Prim.Native.Nat.{ℕ, suc, ◌+◌, ◌*◌, ◌<◌}
use mathlib.Core.Path.{◌≡◌, refl}
use mathlib.Core.List.Memᴰ.{head as here}
use mathlib.Core.List.Memᴰ.{tail as there}
use mathlib.Core.List.{List, [], ◌∷◌, map, Memᴰ as In}
use native.Mathlib.Omega.{arith}
use lib.ListN.{length, length-append}
use Rattle.rules.specs.Lists.{flat}
use Rattle.rules.specs.Picture.{Picture, Dart}
use Rattle.rules.specs.Face.{Face}
use Rattle.rules.specs.Records.{node_record, node_words, point_records, point_words, segment_words, contour_words, face_words}

pub length_nodes : (ss : List (List Dart)) (ns : List (ℕ × ℕ)) → length (node_words ss ns) ≡ 6 * length ns
unfolding node_words node_record flat
length_nodes ss [] = refl
length_nodes ss (c ∷ ns) = omega (arith, length-append (node_record ss c) (node_words ss ns), length_nodes ss ns)

pub length_segments : (P : Picture) (i : ℕ) (ss : List (List Dart)) → length (segment_words P i ss) ≡ 8 * length ss
unfolding segment_words
length_segments P i [] = refl
length_segments P i (s ∷ ss) = omega (arith, length_segments P (i + suc (length s)) ss)

-- a point more than steps, for each segment
pub length_record : (a : Dart) (l : List Dart) → length (point_records (a ∷ l)) ≡ 2 * suc (suc (length l))
unfolding point_records
length_record a [] = refl
length_record a (b ∷ l) = let h = length_record b l in omega arith

pub length_records : (s : List Dart) → 0 < length s → length (point_records s) ≡ 2 * suc (length s)
length_records [] h = absurd (omega arith)
length_records (a ∷ l) h = length_record a l

pub length_points : (ss : List (List Dart)) → ((s : List Dart) → In s ss → 0 < length s) → length (point_words ss) ≡ 2 * (length (flat ss) + length ss)
unfolding point_words flat
length_points [] f = refl
length_points (s ∷ ss) f =
    let p = length_points ss (λ t i. f t (there i)) in
    omega (arith, length-append (point_records s) (flat (map point_records ss)), length_records s (f s (here refl)), length-append s (flat ss))

pub length_contours : (i : ℕ) (cs : List (List ℕ)) → length (contour_words i cs) ≡ 2 * length cs
unfolding contour_words
length_contours i [] = refl
length_contours i (c ∷ cs) = omega (arith, length_contours (i + length c) cs)

pub length_faces : (w i : ℕ) (fs : List Face) → length (face_words w i fs) ≡ 5 * length fs
unfolding face_words
length_faces w i [] = refl
length_faces w i (f ∷ fs) = omega (arith, length_faces w (i + length f.contours) fs)
