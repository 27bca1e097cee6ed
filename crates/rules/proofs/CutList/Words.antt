-- What the words of the stores determine: the steps of each segment from its points, and the region and the contours of each face.
use Prim.Native.Nat.{ℕ, zero, suc, pred, ◌+◌, ◌<◌}
use mathlib.Core.Bool.{true}
use mathlib.Core.Path.{◌≡◌, refl, sym, ap, ap₂, ◌∙◌}
use mathlib.Core.List.Memᴰ.{head as here}
use mathlib.Core.List.Memᴰ.{tail as there}
use mathlib.Core.List.{List, [], ◌∷◌, ◌++◌, map, Memᴰ as In}
use native.Mathlib.Omega.{arith}
use lib.ListN.{length, take, drop}
use lib.Seq.{drop-append_seam, take-append_seam}
use Rattle.rules.specs.Lists.{flat}
use Rattle.rules.specs.Picture.{Picture, Dart, dart, to_x, to_y, crack, ahead_y, ahead_x}
use Rattle.rules.specs.declared.Dir.{Dir}
use Rattle.rules.specs.declared.Dir.TheVariants.{N, E, S, W}
use Rattle.rules.specs.Face.{Face}
use Rattle.rules.specs.Records.{point_records, contours_of, contour_words, face_words, unplaced}
use Rattle.rules.proofs.Lattice.Frame.{Framed}
use Rattle.rules.proofs.Lattice.Darts.{no_north, no_west, dart_path}
use Rattle.rules.proofs.CutList.Lengths.{length_record}
use Rattle.rules.proofs.CutList.Agree.{view}
use Rattle.rules.specs.Describes.{Through, Segment}

-- LISTS by their lengths and the one list of all

module _ {A : Type 0} where
  pub same_parts : (k l m n : List A) → length k ≡ length m → k ++ l ≡ m ++ n → (k ≡ m) × (l ≡ n)
  same_parts k l m n h e = (
    sym (take-append_seam k l) ∙ ap (take (length k)) e ∙ ap (λ i. take i (m ++ n)) h ∙ take-append_seam m n,
    sym (drop-append_seam k l) ∙ ap (drop (length k)) e ∙ ap (λ i. drop i (m ++ n)) h ∙ drop-append_seam m n,
  )

  pub same_flat : (ls ms : List (List A)) → map length ls ≡ map length ms → flat ls ≡ flat ms → ls ≡ ms
  unfolding flat
  same_flat [] [] h e = refl
  same_flat [] (m ∷ ms) h e = absurd (let z = ap length h in omega arith)
  same_flat (l ∷ ls) [] h e = absurd (let z = ap length h in omega arith)
  same_flat (l ∷ ls) (m ∷ ms) h e =
      let i : length l ≡ length m = cc in
      let j : map length ls ≡ map length ms = cc in
      let p = same_parts l (flat ls) m (flat ms) i e in
      ap₂ (λ a b. a ∷ b) p.0 (same_flat ls ms j p.1)

-- CONTOURS AND FACES

contour_lengths : (i j : ℕ) (cs ds : List (List ℕ)) → contour_words i cs ≡ contour_words j ds → map length cs ≡ map length ds
unfolding contour_words
contour_lengths i j [] [] e = refl
contour_lengths i j [] (d ∷ ds) e = absurd (let z = ap length e in omega arith)
contour_lengths i j (c ∷ cs) [] e = absurd (let z = ap length e in omega arith)
contour_lengths i j (c ∷ cs) (d ∷ ds) e =
    let h : length c ≡ length d = cc in
    let k : contour_words (i + length c) cs ≡ contour_words (j + length d) ds = cc in
    ap₂ (λ a b. a ∷ b) h (contour_lengths (i + length c) (j + length d) cs ds k)

pub same_contours : (cs ds : List (List ℕ)) → flat cs ≡ flat ds → contour_words 0 cs ≡ contour_words 0 ds → cs ≡ ds
same_contours cs ds e w = same_flat cs ds (contour_lengths 0 0 cs ds w) e

face_views : (w v i j : ℕ) (fs gs : List Face) → unplaced (face_words w i fs) ≡ unplaced (face_words v j gs) → contours_of fs ≡ contours_of gs → map view fs ≡ map view gs
unfolding face_words unplaced contours_of flat
face_views w v i j [] [] s e = refl
face_views w v i j [] (g ∷ gs) s e = absurd (let z = ap length s in omega arith)
face_views w v i j (f ∷ fs) [] s e = absurd (let z = ap length s in omega arith)
face_views w v i j (f ∷ fs) (g ∷ gs) s e =
    let r : f.region ≡ g.region = cc in
    let h : length f.contours ≡ length g.contours = cc in
    let k : unplaced (face_words w (i + length f.contours) fs) ≡ unplaced (face_words v (j + length g.contours) gs) = cc in
    let p = same_parts f.contours (contours_of fs) g.contours (contours_of gs) h e in
    ap₂ (λ a b. a ∷ b) (λ t. (r t, p.0 t)) (face_views w v (i + length f.contours) (j + length g.contours) fs gs k p.1)

pub same_faces : (w v : ℕ) (fs gs : List Face) → flat (contours_of fs) ≡ flat (contours_of gs) → contour_words 0 (contours_of fs) ≡ contour_words 0 (contours_of gs) → unplaced (face_words w 0 fs) ≡ unplaced (face_words v 0 gs)
    → map view fs ≡ map view gs
same_faces w v fs gs r c f = face_views w v 0 0 fs gs f (same_contours (contours_of fs) (contours_of gs) r c)

-- POINTS

-- a dart that leads to another corner
abbrev Leads : ℕ → ℕ → Dir → Type 0
Leads x y N = 0 < y
Leads x y E = Unit {0}
Leads x y S = Unit {0}
Leads x y W = 0 < x

leads' : {P : Picture} → Framed P → (x y : ℕ) (d : Dir) → crack P (dart x y d) ≡ true → Leads x y d
leads' F x zero N c = absurd (no_north F x c)
leads' F x (suc y) N c = omega arith
leads' F x y E c = tt
leads' F x y S c = tt
leads' F zero y W c = absurd (no_west F y c)
leads' F (suc x) y W c = omega arith

-- two corners side by side tell the heading
heading : (x y : ℕ) (d e : Dir) → Leads x y d → Leads x y e → to_x x d ≡ to_x x e → to_y y d ≡ to_y y e → d ≡ e
unfolding to_x to_y
heading x y N N p q ex ey = refl
heading x y N E p q ex ey = absurd (omega arith)
heading x y N S p q ex ey = absurd (let k : pred y ≡ suc y = ey in omega arith)
heading x y N W p q ex ey = absurd (let k : pred y ≡ y = ey in omega arith)
heading x y E N p q ex ey = absurd (omega arith)
heading x y E E p q ex ey = refl
heading x y E S p q ex ey = absurd (omega arith)
heading x y E W p q ex ey = absurd (let k : suc x ≡ pred x = ex in omega arith)
heading x y S N p q ex ey = absurd (let k : suc y ≡ pred y = ey in omega arith)
heading x y S E p q ex ey = absurd (omega arith)
heading x y S S p q ex ey = refl
heading x y S W p q ex ey = absurd (omega arith)
heading x y W N p q ex ey = absurd (let k : pred x ≡ x = ex in omega arith)
heading x y W E p q ex ey = absurd (let k : pred x ≡ suc x = ex in omega arith)
heading x y W S p q ex ey = absurd (omega arith)
heading x y W W p q ex ey = refl

module _ {P Q : Picture} (F : Framed P) (G : Framed Q) where
  same_dart_lem : (a b : Dart) → crack P a ≡ true → crack Q b ≡ true → a.x ≡ b.x → a.y ≡ b.y → ahead_x a ≡ ahead_x b → ahead_y a ≡ ahead_y b → a ≡ b
  same_dart_lem a b c d ex ey tx ty =
      dart_path a b ex ey
      (heading a.x a.y a.d b.d (leads' F a.x a.y a.d c)
      (rw (ex, ey) (leads' G b.x b.y b.d d)) (tx ∙ ap (λ n. to_x n b.d) (sym ex)) (ty ∙ ap (λ n. to_y n b.d) (sym ey)))

  -- the points of joined steps tell the steps
  same_through : (a : Dart) (l : List Dart) (b : Dart) (m : List Dart) → Through P a l → Through Q b m
      → ((c : Dart) → In c (a ∷ l) → crack P c ≡ true) → ((c : Dart) → In c (b ∷ m) → crack Q c ≡ true)
      → point_records (a ∷ l) ≡ point_records (b ∷ m) → a ∷ l ≡ b ∷ m
  unfolding point_records
  same_through a [] b [] s t f g e =
      let ex : a.x ≡ b.x = cc in
      let ey : a.y ≡ b.y = cc in
      let tx : ahead_x a ≡ ahead_x b = cc in
      let ty : ahead_y a ≡ ahead_y b = cc in
      ap (λ c. c ∷ []) (same_dart_lem a b (f a (here refl)) (g b (here refl)) ex ey tx ty)
  same_through a [] b (d ∷ m) s t f g e = absurd (let z = ap length e in omega (arith, length_record d m))
  same_through a (c ∷ l) b [] s t f g e = absurd (let z = ap length e in omega (arith, length_record c l))
  same_through a (c ∷ l) b (d ∷ m) s t f g e =
      let ex : a.x ≡ b.x = cc in
      let ey : a.y ≡ b.y = cc in
      let r : point_records (c ∷ l) ≡ point_records (d ∷ m) = cc in
      let k : c ∷ l ≡ d ∷ m = same_through c l d m s.3 t.3 (λ z i. f z (there i)) (λ z i. g z (there i)) r in
      let z : c ≡ d = cc in
      ap₂ (λ a b. a ∷ b) (same_dart_lem a b (f a (here refl)) (g b (here refl)) ex ey (sym s.1 ∙ ap (λ c. c.x) z ∙ t.1) (sym s.2 ∙ ap (λ c. c.y) z ∙ t.2)) k

  pub same_segment : (s t : List Dart) → Segment P s → Segment Q t → ((c : Dart) → In c s → crack P c ≡ true) → ((c : Dart) → In c t → crack Q c ≡ true) → point_records s ≡ point_records t → s ≡ t
  same_segment [] t p q f g e = absurd p
  same_segment (a ∷ l) [] p q f g e = absurd q
  same_segment (a ∷ l) (b ∷ m) p q f g e = same_through a l b m p.0 q.0 f g e
