-- No two pictures share a cut list (the mission's third demand).
use Prim.Native.Nat.{ℕ, zero, suc, ◌+◌, ◌*◌, ◌<◌, ◌≤◌}
use mathlib.Core.Bool.{true}
use mathlib.Core.Path.{◌≡◌, refl, sym, ap, ap₂, ◌∙◌, subst, subst₂}
use mathlib.Core.List.Memᴰ.{head as here}
use mathlib.Core.List.Memᴰ.{tail as there}
use mathlib.Core.List.{List, [], ◌∷◌, ◌++◌, append_assoc, Memᴰ as In}
use native.Mathlib.Omega.{arith}
use lib.ListN.{length, get_or, take, drop, length-append}
use lib.Seq.{take_at, drop_at}
use Rattle.rules.specs.Lists.{flat}
use Rattle.rules.specs.Picture.{Picture, picture, northwest, OUTSIDE, Dart, crack}
use Rattle.rules.specs.Graph.{segments}
use Rattle.rules.specs.Face.{Face, faces}
use Rattle.rules.specs.Records.{point_records, point_words, segment_words, unplaced}
use Rattle.rules.specs.Calls.{Map, picture_of, Accepted, label_at, CutList, cuts, cut_list}
use Rattle.rules.proofs.Lattice.Frame.{Framed, picture_framed}
use Rattle.rules.proofs.Ground.Lists.{in_flat}
use Rattle.rules.proofs.Islands.Pixels.{label_is}
use Rattle.rules.proofs.Tracing.Partition.{describes}
use Rattle.rules.proofs.Tracing.Counts.{has_step}
use Rattle.rules.proofs.CutList.Agree.{Alike, same_labels}
use Rattle.rules.proofs.CutList.Lengths.{length_record, length_records}
use Rattle.rules.proofs.CutList.Words.{same_segment, same_faces}
use Rattle.rules.specs.Describes.{Segment, Describes}

-- the points of segment i, as its record tells where they lie: none where there is no such segment
abbrev pub points_of : CutList → ℕ → List ℕ
points_of l i =
    let first = get_or l.segments (8 * i) 0 in
    let count = get_or l.segments (8 * i + 1) 0 in
    take (2 * count) (drop (2 * first) l.points)

-- the points of every segment are equal, and so are the faces, but for their first pixels, with their contours and references
pub record SameCuts (l m : CutList) : Type 0 where
  pub points : (i : ℕ) → points_of l i ≡ points_of m i
  pub references : l.references ≡ m.references
  pub contours : l.contours ≡ m.contours
  pub faces : unplaced l.faces ≡ unplaced m.faces

-- THE POINTS OF A SEGMENT, read from the words

read : (P : Picture) (ss : List (List Dart)) → ((s : List Dart) → In s ss → 0 < length s) → (k : ℕ) (before : List ℕ) → length before ≡ 2 * k → (i : ℕ)
    → take (2 * get_or (segment_words P k ss) (8 * i + 1) 0) (drop (2 * get_or (segment_words P k ss) (8 * i) 0) (before ++ point_words ss)) ≡ point_records (get_or ss i [])
unfolding segment_words point_words flat point_records
read P [] f k before h i = refl
read P (s ∷ ss) f k before h zero =
    ap (take (2 * suc (length s))) (drop_at before (point_records s ++ point_words ss) (2 * k) h)
    ∙ take_at (point_records s) (point_words ss) (2 * suc (length s)) (length_records s (f s (here refl)))
read P (s ∷ ss) f k before h (suc i) =
    let a : 8 * suc i + 1 ≡ suc (suc (suc (suc (suc (suc (suc (suc (8 * i + 1)))))))) = omega arith in
    let b : 8 * suc i ≡ suc (suc (suc (suc (suc (suc (suc (suc (8 * i)))))))) = omega arith in
    let n = length_records s (f s (here refl)) in
    rw (a, b, ← append_assoc before (point_records s) (point_words ss))
    (read P ss (λ t i. f t (there i)) (k + suc (length s)) (before ++ point_records s) (omega (arith, length-append before (point_records s))) i)

-- equal points of every segment make equal segments
abbrev Cut : Picture → List Dart → Type 0
Cut P s = Segment P s × ((c : Dart) → In c s → crack P c ≡ true)

some : (P : Picture) (s : List Dart) → Cut P s → 0 < length (point_records s)
some P [] k = absurd k.0
some P (a ∷ l) k = omega (arith, length_record a l)

module _ {P Q : Picture} (F : Framed P) (G : Framed Q) where
  same_all : (ss ts : List (List Dart)) → ((s : List Dart) → In s ss → Cut P s) → ((s : List Dart) → In s ts → Cut Q s)
      → ((i : ℕ) → point_records (get_or ss i []) ≡ point_records (get_or ts i [])) → ss ≡ ts
  unfolding point_records
  same_all [] [] f g e = refl
  same_all [] (t ∷ ts) f g e = absurd (let z = ap length (e 0) in omega (arith, some Q t (g t (here refl))))
  same_all (s ∷ ss) [] f g e = absurd (let z = ap length (e 0) in omega (arith, some P s (f s (here refl))))
  same_all (s ∷ ss) (t ∷ ts) f g e =
      let p = f s (here refl) in
      let q = g t (here refl) in
      ap₂ (λ a b. a ∷ b) (same_segment F G s t p.0 q.0 p.1 q.1 (e 0)) (same_all ss ts (λ s i. f s (there i)) (λ s i. g s (there i)) (λ i. e (suc i)))

  same_segments : {ss ts : List (List Dart)} → Describes P ss → Describes Q ts → ((i : ℕ) → point_records (get_or ss i []) ≡ point_records (get_or ts i [])) → ss ≡ ts
  same_segments {ss} {ts} D E e =
      same_all ss ts (λ s i. (D.segment s i, λ c j. D.cracked c (in_flat ss s c i j))) (λ s i. (E.segment s i, λ c j. E.cracked c (in_flat ts s c i j))) e

-- OVER ANY SEGMENTS that describe the two pictures

points_are : {P : Picture} → Framed P → {ss : List (List Dart)} → Describes P ss → (fs : List Face) (i : ℕ) → points_of (cuts P ss fs) i ≡ point_records (get_or ss i [])
unfolding cuts
points_are {P} F {ss} D fs i = read P ss (has_step F D) 0 [] refl i

module _ {P Q : Picture} (F : Framed P) (G : Framed Q) {ss ts : List (List Dart)} (D : Describes P ss) (E : Describes Q ts) {paints : ℕ} (b : paints ≤ OUTSIDE) where
  pub same_cuts : SameCuts (cuts P ss (faces P ss paints)) (cuts Q ts (faces Q ts paints)) → (x y : ℕ) → Alike paints (P.nw (suc x) (suc y)) (Q.nw (suc x) (suc y))
  unfolding cuts
  same_cuts k =
      let fs = faces P ss paints in
      let gs = faces Q ts paints in
      same_labels F G D E b
      (same_segments F G D E (λ i. sym (points_are F D fs i) ∙ k.points i ∙ points_are G E gs i))
      (same_faces P.w Q.w fs gs k.references k.contours k.faces)

-- THE DEMAND

picture_label : (m : Map) → Accepted m → (x y : ℕ) → x < m.width → y < m.height → (picture_of m).nw (suc x) (suc y) ≡ label_at m x y
unfolding picture northwest
picture_label m a x y hx hy = label_is m.width m.height m.bound m.labels a.size x y hx hy

pub no_shared_cut_list : (m n : Map) → Accepted m → Accepted n
    → m.width ≡ n.width → m.height ≡ n.height → m.paints ≡ n.paints
    → SameCuts (cut_list m) (cut_list n)
    → (x y : ℕ) → x < m.width → y < m.height
    → Alike m.paints (label_at m x y) (label_at n x y)
unfolding cut_list
no_shared_cut_list m n a b ew eh ep k x y hx hy =
    let F = picture_framed m.width m.height m.bound m.labels in
    let G = picture_framed n.width n.height n.bound n.labels in
    let P = picture_of m in
    let Q = picture_of n in
    let p = picture_label m a x y hx hy in
    let q = picture_label n b x y (rw (← ew) hx) (rw (← eh) hy) in
    let s : SameCuts (cut_list m) (cuts Q (segments Q) (faces Q (segments Q) m.paints)) =
    subst (λ p. SameCuts (cut_list m) (cuts Q (segments Q) (faces Q (segments Q) p))) (sym ep) k in
    subst₂ (Alike m.paints) p q (same_cuts F G (describes F) (describes G) a.word s x y)

-- the same from equal words: the points, each segment's first point and point count, the references, the contours and the faces but for their first pixels
pub record SameWords (l m : CutList) : Type 0 where
  pub points : l.points ≡ m.points
  pub first : (i : ℕ) → get_or l.segments (8 * i) 0 ≡ get_or m.segments (8 * i) 0
  pub count : (i : ℕ) → get_or l.segments (8 * i + 1) 0 ≡ get_or m.segments (8 * i + 1) 0
  pub references : l.references ≡ m.references
  pub contours : l.contours ≡ m.contours
  pub faces : unplaced l.faces ≡ unplaced m.faces

pub same_words : (l m : CutList) → SameWords l m → SameCuts l m
same_words l m k = record {
  points = λ i t. take (2 * k.count i t) (drop (2 * k.first i t) (k.points t));
  references = k.references;
  contours = k.contours;
  faces = k.faces;
}
