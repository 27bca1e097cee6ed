-- What is read of a map's file: its segments, the sides of its faces, and so the map with its painted labels.
use Prim.Native.Nat.{ℕ, zero, suc, ◌+◌, ◌*◌, ◌/◌, ◌%◌, ◌<◌, ◌≤◌}
use mathlib.Core.Bool.{Bool, true, false, cond, ◌&&◌}
use mathlib.Core.Path.{◌≡◌, refl, sym, ap, ap₂, ◌∙◌}
use mathlib.Core.Logic.{◌⊎◌, inl, inr}
use mathlib.Core.List.Memᴰ.{head as here}
use mathlib.Core.List.Memᴰ.{tail as there}
use mathlib.Core.List.{List, [], ◌∷◌, ◌++◌, map, append-nil, map-map, Memᴰ as In}
use native.Mathlib.Omega.{arith}
use lib.Dec.{ltb}
use lib.ListN.{length, get_or, length-map}
use lib.Seq.{take-append_seam, drop-append_seam}
use borrow.Author.Tests.{le-ltb, lt-ltb}
use Rattle.rules.specs.Lists.{keep, flat, upto}
use Rattle.rules.specs.Picture.{Picture, OUTSIDE, Dart, dart, to_x, to_y, ahead_x, ahead_y, crack, seen, label, northwest, picture}
use Rattle.rules.specs.declared.Dir.{Dir}
use Rattle.rules.specs.declared.Dir.TheVariants.{N, E, S, W}
use Rattle.rules.specs.Graph.{segments}
use Rattle.rules.specs.Describes.{Through, Segment, Describes}
use Rattle.rules.specs.Face.{Face, faces, steps, label_of}
use Rattle.rules.specs.Records.{point_records}
use Rattle.rules.specs.Calls.{Map, picture_of, Accepted}
use Rattle.rules.proofs.Lattice.Frame.{Framed, picture_framed}
use Rattle.rules.proofs.Lattice.Darts.{no_north, no_west, dart_path}
use Rattle.rules.proofs.Ground.Lists.{in_flat, map_same, at_map}
use Rattle.rules.proofs.Tracing.Partition.{describes}
use Rattle.rules.proofs.Islands.Pixels.{label_of_is}
use Rattle.rules.proofs.Waste.{seen_elim}
use Rattle.jobfile.specs.JobFile.{waste_free, painted_map, word, word_bytes, Entry, bytes_of, map_entry, segment_entry, contour_body, face_body, face_entry, file_entries, file_bytes, file_of}
use Rattle.jobfile.specs.Entries.{word_at, pairs, entries}
use Rattle.jobfile.specs.Painted.{heading, steps_from, steps_between, steps_of, of_kind, references_in, patch_of, patches, paint_at, paint_all, painted}
use Rattle.jobfile.proofs.Bytes.{word_value, AllSound, entries_back, entries_few}
use Rattle.jobfile.proofs.Paint.{patch, Clean, paint_label}

-- RECORDS OF A KIND

segments_two : (ss : List (List Dart)) (es : List Entry) → of_kind 2 (map segment_entry ss ++ es) ≡ map point_records ss ++ of_kind 2 es
unfolding of_kind keep segment_entry
segments_two [] es = refl
segments_two (s ∷ ss) es = ap (λ l. point_records s ∷ l) (segments_two ss es)

segments_three : (ss : List (List Dart)) (es : List Entry) → of_kind 3 (map segment_entry ss ++ es) ≡ of_kind 3 es
unfolding of_kind keep segment_entry
segments_three [] es = refl
segments_three (s ∷ ss) es = segments_three ss es

faces_two : (w : ℕ) (fs : List Face) → of_kind 2 (map (face_entry w) fs) ≡ []
unfolding of_kind keep face_entry
faces_two w [] = refl
faces_two w (f ∷ fs) = faces_two w fs

faces_three : (w : ℕ) (fs : List Face) → of_kind 3 (map (face_entry w) fs) ≡ map (face_body w) fs
unfolding of_kind keep face_entry
faces_three w [] = refl
faces_three w (f ∷ fs) = ap (λ l. face_body w f ∷ l) (faces_three w fs)

module _ (m : Map) (ss : List (List Dart)) (fs : List Face) where
  pub kind_two : of_kind 2 (file_entries m ss fs) ≡ map point_records ss
  unfolding file_entries of_kind keep map_entry
  kind_two = segments_two ss (map (face_entry m.width) fs) ∙ ap (λ l. map point_records ss ++ l) (faces_two m.width fs) ∙ append-nil (map point_records ss)

  pub kind_three : of_kind 3 (file_entries m ss fs) ≡ map (face_body m.width) fs
  unfolding file_entries of_kind keep map_entry
  kind_three = segments_three ss (map (face_entry m.width) fs) ∙ faces_three m.width fs

-- SEGMENTS: the points of joined cracks tell the steps

heading_is : {P : Picture} → Framed P → (x y : ℕ) (d : Dir) → crack P (dart x y d) ≡ true → heading x y (to_x x d) (to_y y d) ≡ d
unfolding heading to_x to_y
heading_is F x zero N c = absurd (no_north F x c)
heading_is F x (suc y) N c = rw (le-ltb x x (omega arith), le-ltb (suc y) y (omega arith))
heading_is F x y E c = rw (lt-ltb x (suc x) (omega arith))
heading_is F x y S c = rw (le-ltb x x (omega arith), lt-ltb y (suc y) (omega arith))
heading_is F zero y W c = absurd (no_west F y c)
heading_is F (suc x) y W c = rw (le-ltb (suc x) x (omega arith), lt-ltb x (suc x) (omega arith))

-- the points behind the first
unfoldable pub later : Dart → List Dart → List (ℕ × ℕ)
later a [] = (ahead_x a, ahead_y a) ∷ []
later a (b ∷ l) = (b.x, b.y) ∷ later b l

pub pairs_are : (a : Dart) (l : List Dart) → pairs (point_records (a ∷ l)) ≡ (a.x, a.y) ∷ later a l
unfolding pairs point_records later
pairs_are a [] = refl
pairs_are a (b ∷ l) = ap (λ ps. (a.x, a.y) ∷ ps) (pairs_are b l)

module _ {P : Picture} (F : Framed P) where
  dart_back : (a : Dart) (u v : ℕ) → crack P a ≡ true → u ≡ ahead_x a → v ≡ ahead_y a → dart a.x a.y (heading a.x a.y u v) ≡ a
  dart_back a u v c p q = dart_path _ a refl refl (ap₂ (heading a.x a.y) p q ∙ heading_is F a.x a.y a.d c)

  from_back : (a : Dart) (l : List Dart) → Through P a l → ((c : Dart) → In c (a ∷ l) → crack P c ≡ true) → steps_from (a.x, a.y) (later a l) ≡ a ∷ l
  unfolding steps_from later
  from_back a [] t f = ap (λ c. c ∷ []) (dart_back a (ahead_x a) (ahead_y a) (f a (here refl)) refl refl)
  from_back a (b ∷ l) t f =
      ap₂ (λ c m. c ∷ m) (dart_back a b.x b.y (f a (here refl)) t.1 t.2) (from_back b l t.3 (λ c i. f c (there i)))

  steps_back : (s : List Dart) → Segment P s → ((c : Dart) → In c s → crack P c ≡ true) → steps_of (point_records s) ≡ s
  unfolding steps_of steps_between
  steps_back [] k f = absurd k
  steps_back (a ∷ l) k f = ap steps_between (pairs_are a l) ∙ from_back a l k.0 f

  all_back : (ss : List (List Dart)) → ((s : List Dart) → In s ss → Segment P s) → ((s : List Dart) → In s ss → (c : Dart) → In c s → crack P c ≡ true) → map steps_of (map point_records ss) ≡ ss
  all_back [] f g = refl
  all_back (s ∷ ss) f g = ap₂ (λ t ts. t ∷ ts) (steps_back s (f s (here refl)) (g s (here refl))) (all_back ss (λ t i. f t (there i)) (λ t i. g t (there i)))

  pub segments_back : {ss : List (List Dart)} → Describes P ss → map steps_of (map point_records ss) ≡ ss
  segments_back {ss} D = all_back ss D.segment (λ s i c j. D.cracked c (in_flat ss s c i j))

-- FACES

references_back : (cs : List (List ℕ)) → references_in (length cs) (flat (map contour_body cs)) ≡ flat cs
unfolding references_in flat contour_body
references_back [] = refl
references_back (c ∷ cs) =
    ap₂ (λ l m. l ++ m) (take-append_seam c (flat (map contour_body cs)))
    (ap (references_in (length cs)) (drop-append_seam c (flat (map contour_body cs))) ∙ references_back cs)

patch_back : (ss : List (List Dart)) (w : ℕ) (f : Face) → patch_of ss (face_body w f) ≡ patch ss f
unfolding patch_of face_body patch
patch_back ss w f = ap (λ rs. record { region = f.region; sides = flat (map (steps ss) rs) }) (references_back f.contours)

-- THE HEADER

module _ (m : Map) (es : List Entry) where
  abbrev bytes : List ℕ
  bytes = file_bytes (map_entry m ∷ es)

  pub width_back : m.width < 4294967296 → word_at bytes 6 ≡ m.width
  unfolding word_at file_bytes flat bytes_of map_entry word word_bytes
  width_back h = word_value m.width h

  pub height_back : m.height < 4294967296 → word_at bytes 10 ≡ m.height
  unfolding word_at file_bytes flat bytes_of map_entry word word_bytes
  height_back h = word_value m.height h

  pub paints_back : m.paints < 4294967296 → word_at bytes 14 ≡ m.paints
  unfolding word_at file_bytes flat bytes_of map_entry word word_bytes
  paints_back h = word_value m.paints h

-- THE PAINTED LABELS

pub clean : (m : Map) → Clean m.paints (picture_of (waste_free m))
unfolding picture northwest label
clean m zero y = inr refl
clean m (suc x) zero = inr refl
clean m (suc x) (suc y) = go (ltb x m.width && ltb y m.height)
  where
    at : ℕ
    at = get_or m.labels (y * m.width + x) OUTSIDE

    go : (t : Bool) → (cond t (seen m.paints at) OUTSIDE < m.paints) ⊎ (cond t (seen m.paints at) OUTSIDE ≡ OUTSIDE)
    go true = seen_elim (λ n. (n < m.paints) ⊎ (n ≡ OUTSIDE)) m.paints at (λ h. inl h) (λ h. inr refl)
    go false = inr refl

-- a list by its members
numbered : (f : ℕ → ℕ) (l : List ℕ) (a : ℕ) → ((i : ℕ) → i < length l → f (a + i) ≡ get_or l i 0) → map f (upto (length l) a) ≡ l
unfolding upto
numbered f [] a h = refl
numbered f (v ∷ l) a h =
    let z : a + 0 ≡ a = omega arith in
    ap₂ (λ b m. b ∷ m) (ap f (sym z) ∙ h 0 (omega arith)) (numbered f l (suc a) (λ i k. let e : suc a + i ≡ a + suc i = omega arith in ap f e ∙ h (suc i) (omega arith)))

-- ROUND: what an accepted map's file paints is the map with its painted labels
module _ (m : Map) (a : Accepted m) (few : m.paints ≤ 65535) where
  abbrev P : Picture
  P = picture_of (waste_free m)

  abbrev fs : List Face
  fs = faces P (segments P) m.paints

  abbrev framed : Framed P
  framed = picture_framed m.width m.height m.paints m.labels

  module _ (sound : AllSound (file_entries m (segments P) fs)) where
    patches_back : patches (file_of m) ≡ map (patch (segments P)) fs
    unfolding patches file_of
    patches_back =
        let es = file_entries m (segments P) fs in
        let e : entries (length (file_bytes es)) (file_bytes es) ≡ es = entries_back (length (file_bytes es)) es sound (entries_few es) in
        let s : map steps_of (of_kind 2 es) ≡ segments P = ap (map steps_of) (kind_two m (segments P) fs) ∙ segments_back framed (describes framed) in
        ap (λ es. map (patch_of (map steps_of (of_kind 2 es))) (of_kind 3 es)) e
        ∙ ap₂ (λ ss bs. map (patch_of ss) bs) s (kind_three m (segments P) fs)
        ∙ map-map (patch_of (segments P)) (face_body m.width) fs
        ∙ map_same (λ f. patch_of (segments P) (face_body m.width f)) (patch (segments P)) fs (λ f i. patch_back (segments P) m.width f)

    labels_back : paint_all m.width m.height (map (patch (segments P)) fs) ≡ map (seen m.paints) m.labels
    unfolding paint_all label_of picture
    labels_back =
        let ls = map (seen m.paints) m.labels in
        let ps = map (patch (segments P)) fs in
        let size : length ls ≡ m.width * m.height = length-map m.labels (seen m.paints) ∙ a.size in
        let f : ℕ → ℕ = λ p. paint_at ps (p % m.width) (p / m.width) in
        ap (λ n. map f (upto n 0)) (sym size)
        ∙ numbered f ls 0
        (λ i h. let z : 0 + i ≡ i = omega arith in
        rw z (paint_label framed (describes framed) a.word (clean m) (i % m.width) (i / m.width)
        ∙ label_of_is m.width m.height m.paints m.labels a.size i (omega arith)
        ∙ sym (at_map (seen m.paints) m.labels i 0 0 (omega (arith, a.size)))))

    pub painted_back : painted (file_of m) ≡ painted_map m
    unfolding painted file_of file_entries
    painted_back =
        let es = map segment_entry (segments P) ++ map (face_entry m.width) fs in
        let w = width_back m es (omega (arith, a.wide)) in
        let h = height_back m es (omega (arith, a.tall)) in
        let p = paints_back m es (omega (arith, few)) in
        λ i. record {
          width = w i;
          height = h i;
          paints = p i;
          bound = OUTSIDE;
          labels = ((λ j. paint_all (w j) (h j) (patches_back j)) ∙ labels_back) i;
        }
