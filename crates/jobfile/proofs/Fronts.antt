-- Of a map's file that was cut off, the salvage tool keeps every whole record; of a whole one, all of it.
use Prim.Native.Nat.{ℕ, zero, suc, ◌+◌, ◌-◌, ◌/◌, ◌%◌, ◌<◌, ◌≤◌}
use mathlib.Core.Bool.{Bool, true, false, ◌&&◌, ◌||◌, true≢false}
use mathlib.Core.Path.{◌≡◌, refl, sym, ap, ap₂, ◌∙◌, subst}
use mathlib.Core.Logic.{◌⊎◌, inl, inr}
use mathlib.Core.List.Memᴰ.{append_left as in_left}
use mathlib.Core.List.Memᴰ.{append_right as in_right}
use mathlib.Core.List.Memᴰ.{head as here}
use mathlib.Core.List.Memᴰ.{tail as there}
use mathlib.Core.List.{List, [], ◌∷◌, ◌++◌, map, append-nil, append_assoc, Memᴰ as In}
use native.Mathlib.Omega.{arith}
use native.Mathlib.Decide.{dec_lt}
use lib.Dec.{leb, ltb, eqb}
use lib.ListN.{length, take, drop, length-append}
use lib.Seq.{length-take-le, take-append_seam, drop-append_seam}
use borrow.Author.Tests.{le-leb, lt-leb, lt-ltb, le-ltb, ltb-false, eq-eqb}
use Rattle.rules.specs.Lists.{flat}
use Rattle.rules.specs.Picture.{Picture, OUTSIDE, Dart, dart, to_x, to_y, ahead_x, ahead_y, crack, picture}
use Rattle.rules.specs.declared.Dir.{Dir}
use Rattle.rules.specs.declared.Dir.TheVariants.{N, E, S, W}
use Rattle.rules.specs.Graph.{segments}
use Rattle.rules.specs.Describes.{Through, Segment, Describes}
use Rattle.rules.specs.Face.{Face, faces}
use Rattle.rules.specs.Records.{point_records}
use Rattle.rules.specs.Calls.{Map, picture_of, Accepted}
use Rattle.rules.proofs.Lattice.Frame.{Framed, picture_framed}
use Rattle.rules.proofs.Lattice.Darts.{no_north, no_west, crack_x, crack_y, crack_to_x, crack_to_y}
use Rattle.rules.proofs.Ground.Booleans.{both}
use Rattle.rules.proofs.Ground.Lists.{in_flat}
use Rattle.rules.proofs.Faces.Faced.{faced}
use Rattle.rules.proofs.Tracing.Partition.{describes}
use Rattle.rules.proofs.CutList.Lengths.{length_record}
use Rattle.jobfile.specs.JobFile.{word, word_bytes, waste_free, Entry, bytes_of, map_entry, segment_entry, contour_body, face_body, face_entry, file_entries, file_bytes, file_of}
use Rattle.jobfile.specs.Entries.{word_at, words_of, body_length, kind_of, entry_size, body, rest}
use Rattle.jobfile.specs.Salvage.{unit_apart, chained, on_map, points_fit, segment_fits, all_below, contours_fit, face_fits, Place, kind_fits, fits, after, scan, start, kept}
use Rattle.jobfile.proofs.Bytes.{word_value, entries_few, Sound, read_length, read_kind, read_size, read_body, read_rest, read_whole, words_back}
use Rattle.jobfile.proofs.Readback.{later, pairs_are}
use Rattle.jobfile.proofs.Small.{face_reference}
use Rattle.jobfile.proofs.Soundness.{segment_sound, face_sound}
use Rattle.jobfile.proofs.Again.{size_front, kind_front, scan_elim, scan_keeps, nothing, more}

-- SEGMENTS FIT

unit' : {P : Picture} → Framed P → (x y : ℕ) (d : Dir) → crack P (dart x y d) ≡ true → (x - to_x x d) + (to_x x d - x) + ((y - to_y y d) + (to_y y d - y)) ≡ 1
unfolding to_x to_y
unit' F x zero N c = absurd (no_north F x c)
unit' F x (suc y) N c = omega arith
unit' F x y E c = omega arith
unit' F x y S c = omega arith
unit' F zero y W c = absurd (no_west F y c)
unit' F (suc x) y W c = omega arith

module _ {P : Picture} (F : Framed P) where
  unit_apart_lem : (a : Dart) (u v : ℕ) → crack P a ≡ true → u ≡ ahead_x a → v ≡ ahead_y a → unit_apart (a.x, a.y) (u, v) ≡ true
  unfolding unit_apart
  unit_apart_lem a u v c p q = rw (p, q) (eq-eqb _ 1 (unit' F a.x a.y a.d c))

  abbrev Cracks : List Dart → Type 0
  Cracks l = (c : Dart) → In c l → crack P c ≡ true

  chain : (a : Dart) (l : List Dart) → Through P a l → Cracks (a ∷ l) → chained (a.x, a.y) (later a l) ≡ true
  unfolding chained later
  chain a [] t f = both (unit_apart (a.x, a.y) (ahead_x a, ahead_y a)) true (unit_apart_lem a (ahead_x a) (ahead_y a) (f a (here refl)) refl refl) refl
  chain a (b ∷ l) t f = both (unit_apart (a.x, a.y) (b.x, b.y)) _ (unit_apart_lem a b.x b.y (f a (here refl)) t.1 t.2) (chain b l t.3 (λ c i. f c (there i)))

  on_map_lem : (a : Dart) (l : List Dart) → Cracks (a ∷ l) → on_map P.w P.h (later a l) ≡ true
  unfolding on_map later
  on_map_lem a [] f =
      let c = f a (here refl) in
      both (leb (ahead_x a) P.w) _ (le-leb (ahead_x a) P.w (crack_to_x F a c)) (both (leb (ahead_y a) P.h) true (le-leb (ahead_y a) P.h (crack_to_y F a c)) refl)
  on_map_lem a (b ∷ l) f =
      let c = f b (there (here refl)) in
      both (leb b.x P.w) _ (le-leb b.x P.w (crack_x F b c)) (both (leb b.y P.h) _ (le-leb b.y P.h (crack_y F b c)) (on_map_lem b l (λ c i. f c (there i))))

  points_fit_lem : (p : ℕ × ℕ) (a : Dart) (l : List Dart) → on_map P.w P.h (p ∷ later a l) ≡ true → chained p (later a l) ≡ true → points_fit P.w P.h (p ∷ later a l) ≡ true
  unfolding points_fit later
  points_fit_lem p a [] m c = both (on_map P.w P.h (p ∷ later a [])) _ m c
  points_fit_lem p a (b ∷ l) m c = both (on_map P.w P.h (p ∷ later a (b ∷ l))) _ m c

  segment_fits_lem : (s : List Dart) → Segment P s → Cracks s → segment_fits P.w P.h (point_records s) ≡ true
  unfolding segment_fits on_map
  segment_fits_lem [] k f = absurd k
  segment_fits_lem (a ∷ l) k f =
      let c = f a (here refl) in
      both (eqb (length (point_records (a ∷ l)) % 2) 0) _ (eq-eqb (length (point_records (a ∷ l)) % 2) 0 (let n = length_record a l in omega arith))
      (ap (points_fit P.w P.h) (pairs_are a l)
      ∙ points_fit_lem (a.x, a.y) a l
      (both (leb a.x P.w) _ (le-leb a.x P.w (crack_x F a c)) (both (leb a.y P.h) _ (le-leb a.y P.h (crack_y F a c)) (on_map_lem a l f)))
      (chain a l k.0 f))

-- FACES FIT

all_below_lem : (n : ℕ) (c : List ℕ) → ((r : ℕ) → In r c → r / 2 < n) → all_below n c ≡ true
unfolding all_below
all_below_lem n [] f = refl
all_below_lem n (r ∷ c) f = both (ltb (r / 2) n) _ (lt-ltb (r / 2) n (f r (here refl))) (all_below_lem n c (λ q i. f q (there i)))

contours_fit_lem : (n : ℕ) (cs : List (List ℕ)) → ((r : ℕ) → In r (flat cs) → r / 2 < n) → contours_fit n (length cs) (flat (map contour_body cs)) ≡ true
unfolding contours_fit flat contour_body
contours_fit_lem n [] f = refl
contours_fit_lem n (c ∷ cs) f =
    let more = flat (map contour_body cs) in
    both (leb (length c) (length (c ++ more))) _ (le-leb (length c) (length (c ++ more)) (omega (arith, length-append c more)))
    (both (all_below n (take (length c) (c ++ more))) _
    (ap (all_below n) (take-append_seam c more) ∙ all_below_lem n c (λ r i. f r (in_left (flat cs) i)))
    (ap (contours_fit n (length cs)) (drop-append_seam c more) ∙ contours_fit_lem n cs (λ r i. f r (in_right c i))))

face_fits_lem : (w paints n : ℕ) (f : Face) → f.region < paints → ((r : ℕ) → In r (flat f.contours) → r / 2 < n) → face_fits paints n (face_body w f) ≡ true
unfolding face_fits face_body
face_fits_lem w paints n f h k =
    let more = flat (map contour_body f.contours) in
    let l : 4 ≤ suc (suc (suc (suc (length more)))) = omega arith in
    both (leb 4 (suc (suc (suc (suc (length more)))))) _ (le-leb 4 (suc (suc (suc (suc (length more))))) l)
    (both (ltb f.region paints) _ (lt-ltb f.region paints h) (contours_fit_lem n f.contours k))

-- RECORDS THAT FIT, one after the other, each where it stands

abbrev Fitting : Place → List Entry → Type 0
Fitting p [] = Unit {0}
Fitting p (e ∷ es) = Sound e × (kind_fits p e.0 e.1 ≡ true) × Fitting (after p e.0) es

-- a tail of under six bytes, or of a record cut short
abbrev Cut : List ℕ → Type 0
Cut tail = (length tail < 6) ⊎ (length tail < entry_size tail)

unfoldable pub dropped : List ℕ → ℕ
dropped tail = elim (ltb (length tail) 6) [ true ↦ 0 | false ↦ kind_of tail ]

module _ (p : Place) (e : Entry) (more : List ℕ) (s : Sound e) (k : kind_fits p e.0 e.1 ≡ true) where
  abbrev b : List ℕ
  b = bytes_of e ++ more

  entry_fits : fits p b ≡ true
  unfolding fits
  entry_fits =
      let w = read_whole e more s in
      both (leb (entry_size b) (length b)) _ (le-leb (entry_size b) (length b) (omega arith))
      (both (eqb (body_length b % 4) 0) _ (eq-eqb (body_length b % 4) 0 (let l = read_length e more s in omega arith))
      (ap₂ (kind_fits p) (read_kind e more s) (ap words_of (read_body e more s) ∙ words_back e.1 s.words) ∙ k))

cut_fits : (p : Place) (tail : List ℕ) → length tail < entry_size tail → fits p tail ≡ false
unfolding fits
cut_fits p tail h = ap (λ t. t && (eqb (body_length tail % 4) 0 && kind_fits p (kind_of tail) (words_of (body tail)))) (lt-leb (entry_size tail) (length tail) h)

-- WHAT IS KEPT of records that fit and a tail that is cut: the records

none_kept : (k : ℕ) (p : Place) (tail : List ℕ) → Cut tail → scan (suc k) p tail ≡ record { length = 0; kind = dropped tail }
unfolding dropped
none_kept k p tail c =
    scan_elim (λ s. s ≡ record { length = 0; kind = dropped tail }) k p tail
    (λ h. ap (λ t. nothing (elim t [ true ↦ 0 | false ↦ kind_of tail ])) (sym (lt-ltb (length tail) 6 h)))
    (λ h f. ap (λ t. nothing (elim t [ true ↦ 0 | false ↦ kind_of tail ])) (sym (le-ltb (length tail) 6 h)))
    (λ h f. absurd (go c h f))
  where
    go : Cut tail → 6 ≤ length tail → fits p tail ≡ true → ⊥
    go (inl l) h f = omega arith
    go (inr l) h f = true≢false (sym f ∙ cut_fits p tail l)

pub scan_front : (k : ℕ) (p : Place) (es : List Entry) (tail : List ℕ) → Fitting p es → Cut tail → length es < k
    → scan k p (file_bytes es ++ tail) ≡ record { length = length (file_bytes es); kind = dropped tail }
unfolding file_bytes flat
scan_front zero p es tail f c h = absurd (omega arith)
scan_front (suc k) p [] tail f c h = none_kept k p tail c
scan_front (suc k) p (e ∷ es) tail f c h =
    let s = f.0 in
    let later = file_bytes es ++ tail in
    let b = bytes_of e ++ later in
    let w = read_whole e later s in
    let z = read_size e later s in
    let r : scan k (after p (kind_of b)) (rest b) ≡ record { length = length (file_bytes es); kind = dropped tail } =
    ap₂ (scan k) (ap (after p) (read_kind e later s)) (read_rest e later s) ∙ scan_front k (after p e.0) es tail f.2 c (omega arith) in
    let n : entry_size b + length (file_bytes es) ≡ length (bytes_of e ++ file_bytes es) =
    omega (arith, w, length-append (bytes_of e) later, length-append (bytes_of e) (file_bytes es)) in
    ap (scan (suc k) p) (append_assoc (bytes_of e) (file_bytes es) tail)
    ∙ scan_keeps k p b (omega arith) (entry_fits p e later s f.1)
    ∙ ap (more (entry_size b)) r
    ∙ ap (λ n. record { length = n; kind = dropped tail }) n

-- the front of a record is cut, and its kind is the record's
module _ (e : Entry) (s : Sound e) (j : ℕ) (h : j < length (bytes_of e)) where
  abbrev cut : List ℕ
  cut = take j (bytes_of e)

  cut_length : length cut ≡ j
  cut_length = length-take-le j (bytes_of e) (omega arith)

  size_is : entry_size (bytes_of e) ≡ length (bytes_of e)
  size_is = subst (λ b. entry_size b ≡ length b) (append-nil (bytes_of e)) (let w = read_whole e [] s in omega arith)

  cut_front : Cut cut
  cut_front = go (dec_lt j 6)
    where
      go : Dec (j < 6) → Cut cut
      go (yes k) = inl (omega (arith, cut_length))
      go (no k) = inr (omega (arith, cut_length, size_front (bytes_of e) j (omega arith), size_is))

  kind_is : kind_of (bytes_of e) ≡ e.0
  kind_is = subst (λ b. kind_of b ≡ e.0) (append-nil (bytes_of e)) (read_kind e [] s)

  cut_dropped : dropped cut ≡ elim (ltb j 6) [ true ↦ 0 | false ↦ e.0 ]
  unfolding dropped
  cut_dropped = ap {B = ℕ} (λ n. elim (ltb n 6) [ true ↦ 0 | false ↦ kind_of cut ]) cut_length ∙ go (ltb j 6) refl
    where
      go : (t : Bool) → ltb j 6 ≡ t → ◌≡◌ {A = ℕ} (elim t [ true ↦ 0 | false ↦ kind_of cut ]) (elim t [ true ↦ 0 | false ↦ e.0 ])
      go true k = refl
      go false k = kind_front (bytes_of e) j (ltb-false j 6 k) ∙ kind_is

-- A MAP'S RECORDS FIT

fitting_front : (p : Place) (es gs : List Entry) → Fitting p (es ++ gs) → Fitting p es
fitting_front p [] gs f = tt
fitting_front p (e ∷ es) gs f = (f.0, f.1, fitting_front (after p e.0) es gs f.2)

fitting_at : (p : Place) (es : List Entry) (e : Entry) (gs : List Entry) → Fitting p (es ++ (e ∷ gs)) → Sound e
fitting_at p [] e gs f = f.0
fitting_at p (d ∷ es) e gs f = fitting_at (after p d.0) es e gs f.2

module _ (w h paints : ℕ) where
  abbrev place : ℕ → Bool → Place
  place n f = record { width = w; height = h; paints = paints; segments = n; faces = f }

  segments_fitting : (n : ℕ) (ss : List (List Dart)) (es : List Entry) → ((s : List Dart) → In s ss → Sound (segment_entry s) × (segment_fits w h (point_records s) ≡ true))
      → Fitting (place (n + length ss) false) es → Fitting (place n false) (map segment_entry ss ++ es)
  unfolding segment_entry kind_fits after
  segments_fitting n [] es f k = let z : n + 0 ≡ n = omega arith in subst (λ n. Fitting (place n false) es) z k
  segments_fitting n (s ∷ ss) es f k =
      let q = f s (here refl) in
      let z : n + suc (length ss) ≡ suc n + length ss = omega arith in
      (q.0, q.1, segments_fitting (suc n) ss es (λ t i. f t (there i)) (subst (λ n. Fitting (place n false) es) z k))

  faces_fitting : (n : ℕ) (b : Bool) (fs : List Face) → ((f : Face) → In f fs → Sound (face_entry w f) × (face_fits paints n (face_body w f) ≡ true)) → Fitting (place n b) (map (face_entry w) fs)
  unfolding face_entry kind_fits after
  faces_fitting n b [] k = tt
  faces_fitting n b (f ∷ fs) k = let q = k f (here refl) in (q.0, q.1, faces_fitting n (b || true) fs (λ g i. k g (there i)))

module _ (m : Map) (a : Accepted m) (few : m.paints ≤ 65535) where
  abbrev P : Picture
  P = picture_of (waste_free m)

  abbrev F : Framed P
  F = picture_framed m.width m.height m.paints m.labels

  abbrev D : Describes P (segments P)
  D = describes F

  abbrev fs : List Face
  fs = faces P (segments P) m.paints

  -- the records behind the first
  abbrev pub others : List Entry
  others = map segment_entry (segments P) ++ map (face_entry m.width) fs

  others_fitting : Fitting (place m.width m.height m.paints 0 false) others
  unfolding picture
  others_fitting =
      let b : m.paints ≤ OUTSIDE = omega arith in
      let n = length (segments P) in
      let z : 0 + n ≡ n = omega arith in
      segments_fitting m.width m.height m.paints 0 (segments P) (map (face_entry m.width) fs)
      (λ s i. (segment_sound F D a.wide a.tall s i, segment_fits_lem F s (D.segment s i) (λ c j. D.cracked c (in_flat (segments P) s c i j))))
      (subst (λ n. Fitting (place m.width m.height m.paints n false) (map (face_entry m.width) fs)) (sym z)
      (faces_fitting m.width m.height m.paints n false fs
      (λ f i. (
        face_sound F D a.wide a.tall few f i,
        face_fits_lem m.width m.paints n f ((faced F D b).face f i).painted (λ r j. let k = (face_reference F D b f i r j).0 in omega arith),
      ))))

  module _ (front back : List Entry) (e : others ≡ front ++ back) (tail : List ℕ) (c : Cut tail) where
    abbrev left : List ℕ
    left = file_bytes (map_entry m ∷ front) ++ tail

    start_is : start left ≡ place m.width m.height m.paints 0 false
    unfolding start word_at file_bytes flat bytes_of map_entry word word_bytes
    start_is =
        let w = word_value m.width (omega (arith, a.wide)) in
        let h = word_value m.height (omega (arith, a.tall)) in
        let p = word_value m.paints (omega (arith, few)) in
        λ i. record { width = w i; height = h i; paints = p i; segments = 0; faces = false }

    behind : drop 18 left ≡ file_bytes front ++ tail
    unfolding file_bytes flat bytes_of map_entry word word_bytes
    behind = refl

    header_length : length (file_bytes (map_entry m ∷ front)) ≡ 18 + length (file_bytes front)
    unfolding file_bytes flat bytes_of map_entry word word_bytes
    header_length = omega arith

    -- A CUT FILE: its whole records are kept
    pub front_kept : kept left ≡ record { length = length (file_bytes (map_entry m ∷ front)); kind = dropped tail }
    unfolding kept
    front_kept =
        let q = place m.width m.height m.paints 0 false in
        let f : Fitting q front = fitting_front q front back (subst (Fitting q) e others_fitting) in
        let s : scan (length left) (start left) (drop 18 left) ≡ record { length = length (file_bytes front); kind = dropped tail } =
        ap₂ (scan (length left)) start_is behind
        ∙ scan_front (length left) q front tail f c (omega (arith, entries_few front, header_length, length-append (file_bytes (map_entry m ∷ front)) tail)) in
        ap (more 18) s ∙ ap (λ n. record { length = n; kind = dropped tail }) (sym header_length)

  -- cut inside the record e, after j of its bytes
  pub cut_kept : (front back : List Entry) (e : Entry) → others ≡ front ++ (e ∷ back) → (j : ℕ) → j < length (bytes_of e)
      → kept (file_bytes (map_entry m ∷ front) ++ take j (bytes_of e)) ≡ record { length = length (file_bytes (map_entry m ∷ front)); kind = elim (ltb j 6) [ true ↦ 0 | false ↦ e.0 ] }
  cut_kept front back e z j h =
      let q = place m.width m.height m.paints 0 false in
      let s = fitting_at q front e back (subst (Fitting q) z others_fitting) in
      front_kept front (e ∷ back) z (take j (bytes_of e)) (cut_front e s j h) ∙ ap (λ k. record { length = length (file_bytes (map_entry m ∷ front)); kind = k }) (cut_dropped e s j h)

  -- A WHOLE FILE: all of it is kept, and nothing is dropped
  pub file_kept : kept (file_of m) ≡ record { length = length (file_of m); kind = 0 }
  unfolding file_of file_entries dropped
  file_kept =
      let b = file_bytes (map_entry m ∷ others) in
      ap kept (sym (append-nil b)) ∙ front_kept others [] (sym (append-nil others)) [] (inl (omega arith))
