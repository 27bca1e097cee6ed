-- The records of an accepted map's file are sound: each kind, body length and word fits its field.
use Prim.Native.Nat.{ℕ, suc, ◌+◌, ◌*◌, ◌<◌, ◌≤◌}
use mathlib.Core.Path.{◌≡◌, refl, sym, ap, subst}
use mathlib.Core.List.Memᴰ.{head as here}
use mathlib.Core.List.Memᴰ.{not-nil}
use mathlib.Core.List.Memᴰ.{tail as there}
use mathlib.Core.List.{List, [], ◌∷◌, ◌++◌, map, Memᴰ as In}
use native.Mathlib.Omega.{arith}
use native.Mathlib.Nat.{mul-le-mul, mul_assoc}
use lib.ListN.{length, length-append}
use Rattle.rules.specs.Lists.{flat, Distinct}
use Rattle.rules.specs.Picture.{Picture, OUTSIDE, Dart, ahead_x, ahead_y, picture}
use Rattle.rules.specs.Graph.{segments}
use Rattle.rules.specs.Describes.{Describes}
use Rattle.rules.specs.Face.{Face, faces}
use Rattle.rules.specs.Records.{point_records}
use Rattle.rules.specs.Calls.{Map, picture_of, Accepted}
use Rattle.rules.proofs.Lattice.Frame.{Framed, picture_framed}
use Rattle.rules.proofs.Lattice.Darts.{crack_x, crack_y, crack_to_x, crack_to_y}
use Rattle.rules.proofs.Lattice.Edges.{once_distinct}
use Rattle.rules.proofs.Ground.Lists.{in_flat, flat_map_in, distinct_left, distinct_right}
use Rattle.rules.proofs.Tracing.Along.{segment_plain}
use Rattle.rules.proofs.Tracing.Counts.{segment_count_lem, crack_count, has_step}
use Rattle.rules.proofs.Tracing.Partition.{describes}
use Rattle.rules.proofs.Faces.Faced.{faced}
use Rattle.rules.proofs.Islands.Pixels.{column_in, row_in}
use Rattle.rules.proofs.CutList.Lengths.{length_records}
use Rattle.jobfile.specs.JobFile.{waste_free, Entry, map_entry, segment_entry, contour_body, face_body, face_entry, file_entries}
use Rattle.jobfile.proofs.Bytes.{Words, Sound, AllSound}
use Rattle.jobfile.proofs.Small.{segment_few, face_contours, face_references, face_reference}

-- LISTS

words_all : (l : List ℕ) → ((v : ℕ) → In v l → v < 4294967296) → Words l
words_all [] f = tt
words_all (v ∷ l) f = (f v (here refl), words_all l (λ u i. f u (there i)))

sound_append : (es gs : List Entry) → AllSound es → AllSound gs → AllSound (es ++ gs)
sound_append [] gs s t = t
sound_append (e ∷ es) gs s t = (s.0, sound_append es gs s.1 t)

sound_map : {A : Type 0} (f : A → Entry) (l : List A) → ((a : A) → In a l → Sound (f a)) → AllSound (map f l)
sound_map f [] h = tt
sound_map f (a ∷ l) h = (h a (here refl), sound_map f l (λ b i. h b (there i)))

part_length : (cs : List (List ℕ)) (c : List ℕ) → In c cs → length c ≤ length (flat cs)
unfolding flat
part_length [] c i = absurd (not-nil i)
part_length (d ∷ cs) c (here e) = omega (arith, ap length e, length-append d (flat cs))
part_length (d ∷ cs) c (there i) = omega (arith, part_length cs c i, length-append d (flat cs))

part_distinct : (ss : List (List Dart)) (s : List Dart) → Distinct (flat ss) → In s ss → Distinct s
unfolding flat
part_distinct [] s d i = absurd (not-nil i)
part_distinct (t ∷ ss) s d (here e) = subst Distinct (sym e) (distinct_left t (flat ss) d)
part_distinct (t ∷ ss) s d (there i) = part_distinct ss s (distinct_right t (flat ss) d) i

pub bodies_length : (cs : List (List ℕ)) → length (flat (map contour_body cs)) ≡ length cs + length (flat cs)
unfolding flat contour_body
bodies_length [] = refl
bodies_length (c ∷ cs) = omega (arith, bodies_length cs, length-append c (flat (map contour_body cs)), length-append c (flat cs))

-- SEGMENTS AND FACES of a picture with sides up to 16,384

module _ {P : Picture} (F : Framed P) {ss : List (List Dart)} (D : Describes P ss) (wide : P.w ≤ 16384) (tall : P.h ≤ 16384) where
  corners_few : suc P.h * suc P.w ≤ 268468225
  corners_few = let a : suc P.h ≤ 16385 = omega arith in let c : suc P.w ≤ 16385 = omega arith in omega (arith, mul-le-mul a c)

  segments_few : length ss ≤ 536903680
  segments_few =
      let two = mul_assoc 2 P.w P.h in
      omega (arith, segment_count_lem F D, crack_count F, two, mul-le-mul wide tall)

  abbrev Near : Dart → Type 0
  Near a = (a.x < 4294967296) × (a.y < 4294967296) × (ahead_x a < 4294967296) × (ahead_y a < 4294967296)

  point_words_lem : (s : List Dart) → ((a : Dart) → In a s → Near a) → Words (point_records s)
  unfolding point_records
  point_words_lem [] f = tt
  point_words_lem (a ∷ []) f = let r = f a (here refl) in (r.0, (r.1, (r.2, (r.3, tt))))
  point_words_lem (a ∷ c ∷ l) f = let r = f a (here refl) in (r.0, (r.1, point_words_lem (c ∷ l) (λ d i. f d (there i))))

  near : (a : Dart) → In a (flat ss) → Near a
  near a i =
      let c = D.cracked a i in
      (omega (arith, crack_x F a c), omega (arith, crack_y F a c), omega (arith, crack_to_x F a c), omega (arith, crack_to_y F a c))

  pub segment_sound : (s : List Dart) → In s ss → Sound (segment_entry s)
  unfolding segment_entry
  segment_sound s i =
      let n = segment_few F s (D.segment s i) (segment_plain F D s i) (part_distinct ss s (once_distinct (flat ss) D.once) i) in
      record {
        kind = omega arith;
        short = omega (arith, n, corners_few, length_records s (has_step F D s i));
        words = point_words_lem s (λ a j. near a (in_flat ss s a i j));
      }

  module _ {paints : ℕ} (few : paints ≤ 65535) where
    b : paints ≤ OUTSIDE
    b = omega arith

    pub face_sound : (f : Face) → In f (faces P ss paints) → Sound (face_entry P.w f)
    unfolding face_entry face_body contour_body
    face_sound f i =
        let k = (faced F D b).face f i in
        let cs = f.contours in
        let n = face_contours F D b f i in
        let r = face_references F D b f i in
        record {
          kind = omega arith;
          short = omega (arith, n, r, corners_few, segments_few, bodies_length cs);
          words = (
            omega (arith, k.painted),
            (
              omega (arith, column_in P.w P.h f.first k.on),
              (
                omega (arith, row_in P.w P.h f.first k.on),
                (
                  omega (arith, n, corners_few),
                  words_all (flat (map contour_body cs)) (λ v j. body_word v (flat_map_in contour_body cs v j)),
                ),
              ),
            ),
          );
        }
      where
        body_word : (v : ℕ) → (c : List ℕ) × In c f.contours × In v (length c ∷ c) → v < 4294967296
        body_word v q = go q.0 q.1 q.2
          where
            go : (c : List ℕ) → In c f.contours → In v (length c ∷ c) → v < 4294967296
            go c m (here e) = omega (arith, part_length f.contours c m, face_references F D b f i, segments_few)
            go c m (there j) = omega (arith, (face_reference F D b f i v (in_flat f.contours c v m j)).0, segments_few)

-- THE FILE

pub file_sound : (m : Map) → Accepted m → m.paints ≤ 65535
    → AllSound (file_entries m (segments (picture_of (waste_free m))) (faces (picture_of (waste_free m)) (segments (picture_of (waste_free m))) m.paints))
unfolding file_entries map_entry picture
file_sound m a few =
    let n = waste_free m in
    let P = picture_of n in
    let F = picture_framed n.width n.height n.bound n.labels in
    let D = describes F in (
      record { kind = omega arith; short = omega arith; words = (omega (arith, a.wide), (omega (arith, a.tall), (omega (arith, few), tt))) },
      sound_append (map segment_entry (segments P)) (map (face_entry m.width) (faces P (segments P) m.paints))
          (sound_map segment_entry (segments P) (segment_sound F D a.wide a.tall))
          (sound_map (face_entry m.width) (faces P (segments P) m.paints) (face_sound F D a.wide a.tall few)),
    )
