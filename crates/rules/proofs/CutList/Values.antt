-- How large the words of a cut list's records are.
use Prim.Native.Nat.{ℕ, zero, suc, pred, ◌+◌, ◌*◌, ◌<◌, ◌≤◌}
use mathlib.Core.Bool.{Bool, true, false, cond, ◌&&◌}
use mathlib.Core.Path.{◌≡◌, refl, sym, subst}
use mathlib.Core.Logic.{◌⊎◌, inl, inr}
use mathlib.Core.List.Memᴰ.{head as here}
use mathlib.Core.List.Memᴰ.{tail as there}
use mathlib.Core.List.{List, [], ◌∷◌, ◌++◌, Memᴰ as In}
use native.Mathlib.Omega.{arith}
use lib.Dec.{ltb, eqb}
use lib.ListN.{length, get_or, length-append}
use Rattle.rules.specs.Lists.{flat, keep}
use Rattle.rules.specs.Picture.{Picture, seen, label, northwest, picture, OUTSIDE, code, right_of, Dart, same_dart, left_at, left, right, node, ahead_x, ahead_y}
use Rattle.rules.specs.declared.Dir.{Dir}
use Rattle.rules.specs.declared.Dir.TheVariants.{N, E, S, W}
use Rattle.rules.specs.Graph.{nodes, corners}
use Rattle.rules.specs.Describes.{Describes}
use Rattle.rules.specs.Face.{refs, first_step, out_entry, no_dart, Face, faces}
use Rattle.rules.specs.Records.{NONE, node_record, node_words, node_at, point_records, point_words, segment_words, contours_of, face_words}
use Rattle.rules.proofs.Ground.Lists.{in_at, keep_in, flat_in, in_flat}
use Rattle.rules.proofs.Lattice.Frame.{Framed}
use Rattle.rules.proofs.Lattice.Darts.{crack_x, crack_y, crack_to_x, crack_to_y}
use Rattle.rules.proofs.Lattice.Grid.{corners_in}
use Rattle.rules.proofs.References.Steps.{refs_in}
use Rattle.rules.proofs.Contours.Painted.{painted}
use Rattle.rules.proofs.Faces.Faced.{faced}
use Rattle.rules.proofs.CutList.Records.{first_point, record_of, segment_word_lem, node_word_lem}

-- ALL WORDS AT MOST b

abbrev pub AtMost : ℕ → List ℕ → Type 0
AtMost b [] = Unit {0}
AtMost b (v ∷ l) = (v ≤ b) × AtMost b l

module _ (b : ℕ) where
  pub most_at : (l : List ℕ) → AtMost b l → (i : ℕ) → get_or l i 0 ≤ b
  most_at [] h i = omega arith
  most_at (v ∷ l) h zero = h.0
  most_at (v ∷ l) h (suc i) = most_at l h.1 i

  pub most_append : (k l : List ℕ) → AtMost b k → AtMost b l → AtMost b (k ++ l)
  most_append [] l h m = m
  most_append (v ∷ k) l h m = (h.0, most_append k l h.1 m)

  pub most_all : (l : List ℕ) → ((v : ℕ) → In v l → v ≤ b) → AtMost b l
  most_all [] f = tt
  most_all (v ∷ l) f = (f v (here refl), most_all l (λ u i. f u (there i)))

pub most_more : {b c : ℕ} (l : List ℕ) → b ≤ c → AtMost b l → AtMost c l
most_more [] h m = tt
most_more (v ∷ l) h m = (omega (arith, m.0), most_more l h m.1)

-- BELOW b, OR NONE

abbrev pub Below : ℕ → ℕ → Type 0
Below b n = (n ≡ NONE) ⊎ (n < b)

pub below_more : {b c : ℕ} (n : ℕ) → b ≤ c → Below b n → Below c n
below_more n h (inl e) = inl e
below_more n h (inr e) = inr (omega arith)

-- the number of a node
number_below : (cs : List (ℕ × ℕ)) (i x y : ℕ) → Below (i + length cs) (node_at cs i x y)
unfolding node_at
number_below [] i x y = inl refl
number_below (c ∷ cs) i x y = go (eqb c.0 x && eqb c.1 y) (number_below cs (suc i) x y)
  where
    go : (t : Bool) → Below (suc i + length cs) (node_at cs (suc i) x y) → Below (i + suc (length cs)) (elim t [ true ↦ i | false ↦ node_at cs (suc i) x y ])
    go true r = inr (omega arith)
    go false (inl e) = inl e
    go false (inr e) = inr (omega arith)

node_below : (cs : List (ℕ × ℕ)) (x y : ℕ) → Below (length cs) (node_at cs 0 x y)
node_below cs x y = let z : 0 + length cs ≡ length cs = omega arith in rw z at (number_below cs 0 x y)

-- an out entry
entry_below : (ss : List (List Dart)) (a : Dart) → Below (2 * length ss) (out_entry ss a)
unfolding out_entry
entry_below ss a = go (keep t (refs ss)) (λ r i. refs_in ss r (keep_in t (refs ss) r i).0)
  where
    t : ℕ → Bool
    t r = same_dart a (first_step ss r)

    go : (l : List ℕ) → ((r : ℕ) → In r l → r < 2 * length ss) → Below (2 * length ss) (get_or l 0 OUTSIDE)
    go [] f = inl refl
    go (r ∷ l) f = inr (f r (here refl))

-- NODES

pub record NodeValues (P : Picture) (ss : List (List Dart)) (ws : List ℕ) (i : ℕ) : Type 0 where
  pub x : get_or ws (6 * i) 0 ≤ P.w
  pub y : get_or ws (6 * i + 1) 0 ≤ P.h
  pub north : Below (2 * length ss) (get_or ws (6 * i + 2) 0)
  pub east : Below (2 * length ss) (get_or ws (6 * i + 3) 0)
  pub south : Below (2 * length ss) (get_or ws (6 * i + 4) 0)
  pub west : Below (2 * length ss) (get_or ws (6 * i + 5) 0)

module _ (P : Picture) (ss : List (List Dart)) (i : ℕ) (h : i < length (nodes P)) where
  abbrev corner : ℕ × ℕ
  corner = get_or (nodes P) i (0, 0)

  node_is : (k : ℕ) → k < 6 → get_or (node_record ss corner) k 0 ≡ get_or (node_words ss (nodes P)) (6 * i + k) 0
  node_is k b = sym (node_word_lem ss (nodes P) i k h b)

  in_frame : (corner.0 ≤ P.w) × (corner.1 ≤ P.h)
  unfolding nodes
  in_frame = corners_in P corner (keep_in (λ c. node P c.0 c.1) (corners P) corner (in_at (nodes P) i (0, 0) h)).0

  pub node_values : NodeValues P ss (node_words ss (nodes P)) i
  unfolding node_record
  node_values =
      let z : 6 * i + 0 ≡ 6 * i = omega arith in
      record {
        x = subst (λ n. n ≤ P.w) (rw z at (node_is 0 (omega arith))) in_frame.0;
        y = subst (λ n. n ≤ P.h) (node_is 1 (omega arith)) in_frame.1;
        north = subst (Below (2 * length ss)) (node_is 2 (omega arith)) (entry_below ss _);
        east = subst (Below (2 * length ss)) (node_is 3 (omega arith)) (entry_below ss _);
        south = subst (Below (2 * length ss)) (node_is 4 (omega arith)) (entry_below ss _);
        west = subst (Below (2 * length ss)) (node_is 5 (omega arith)) (entry_below ss _);
      }

-- SEGMENTS, where no label is above `most`

pub record SegmentValues (P : Picture) (most : ℕ) (ws : List ℕ) (i : ℕ) : Type 0 where
  pub start : Below (length (nodes P)) (get_or ws (8 * i + 2) 0)
  pub end : Below (length (nodes P)) (get_or ws (8 * i + 3) 0)
  pub left : get_or ws (8 * i + 4) 0 ≤ most
  pub right : get_or ws (8 * i + 5) 0 ≤ most
  pub first : get_or ws (8 * i + 6) 0 ≤ 3
  pub last : get_or ws (8 * i + 7) 0 ≤ 3

code_most : (d : Dir) → code d ≤ 3
code_most N = omega arith
code_most E = omega arith
code_most S = omega arith
code_most W = omega arith

last_most : (b : Bool) (d : Dir) → cond b (code d) 0 ≤ 3
last_most true d = code_most d
last_most false d = omega arith

side_most : (P : Picture) (most : ℕ) → ((x y : ℕ) → P.nw x y ≤ most) → (x y : ℕ) (d : Dir) → left_at P x y d ≤ most
unfolding left_at
side_most P most f x y N = f x y
side_most P most f x y E = f (suc x) y
side_most P most f x y S = f (suc x) (suc y)
side_most P most f x y W = f x (suc y)

module _ (P : Picture) (ss : List (List Dart)) (most : ℕ) (f : (x y : ℕ) → P.nw x y ≤ most) (i : ℕ) (h : i < length ss) where
  segment_is : (k : ℕ) → k < 8 → get_or (record_of P (first_point ss i) (get_or ss i [])) k 0 ≡ get_or (segment_words P 0 ss) (8 * i + k) 0
  segment_is k b = sym (segment_word_lem P ss 0 i k (first_point ss i) (omega arith) h b)

  pub segment_values : SegmentValues P most (segment_words P 0 ss) i
  unfolding record_of left right
  segment_values =
      let s = get_or ss i [] in
      let a = get_or s 0 no_dart in
      let z = get_or s (pred (length s)) no_dart in
      let ns = length (nodes P) in
      record {
        start = subst (Below ns) (segment_is 2 (omega arith)) (node_below (nodes P) _ _);
        end = subst (Below ns) (segment_is 3 (omega arith)) (node_below (nodes P) _ _);
        left = subst (λ n. n ≤ most) (segment_is 4 (omega arith)) (side_most P most f a.x a.y a.d);
        right = subst (λ n. n ≤ most) (segment_is 5 (omega arith)) (side_most P most f a.x a.y (right_of a.d));
        first = subst (λ n. n ≤ 3) (segment_is 6 (omega arith)) (code_most a.d);
        last = subst (λ n. n ≤ 3) (segment_is 7 (omega arith)) (last_most (node P a.x a.y) z.d);
      }

-- the labels of a map
pub label_most : (w h b : ℕ) (ls : List ℕ) → AtMost OUTSIDE ls → (x y : ℕ) → (picture w h b ls).nw x y ≤ OUTSIDE
unfolding picture northwest label seen
label_most w h b ls f zero y = omega arith
label_most w h b ls f (suc x) zero = omega arith
label_most w h b ls f (suc x) (suc y) = go (ltb x w && ltb y h)
  where
    at : (l : List ℕ) → AtMost OUTSIDE l → (i : ℕ) → get_or l i OUTSIDE ≤ OUTSIDE
    at [] f i = omega arith
    at (v ∷ l) f zero = f.0
    at (v ∷ l) f (suc i) = at l f.1 i

    read : (t : Bool) (l : ℕ) → l ≤ OUTSIDE → elim t [ true ↦ l | false ↦ OUTSIDE ] ≤ OUTSIDE
    read true l k = k
    read false l k = omega arith

    go : (t : Bool) → cond t (elim (ltb (get_or ls (y * w + x) OUTSIDE) b) [ true ↦ get_or ls (y * w + x) OUTSIDE | false ↦ OUTSIDE ]) OUTSIDE ≤ OUTSIDE
    go true = read (ltb (get_or ls (y * w + x) OUTSIDE) b) (get_or ls (y * w + x) OUTSIDE) (at ls f (y * w + x))
    go false = omega arith

-- POINTS, where no side is above b

module _ {P : Picture} (F : Framed P) {ss : List (List Dart)} (D : Describes P ss) (b : ℕ) (w : P.w ≤ b) (h : P.h ≤ b) where
  -- both corners of a step
  abbrev Near : Dart → Type 0
  Near a = (a.x ≤ b) × (a.y ≤ b) × (ahead_x a ≤ b) × (ahead_y a ≤ b)

  near : (a : Dart) → In a (flat ss) → Near a
  near a i =
      let c = D.cracked a i in
      (omega (arith, crack_x F a c), omega (arith, crack_y F a c), omega (arith, crack_to_x F a c), omega (arith, crack_to_y F a c))

  record_most : (s : List Dart) → ((a : Dart) → In a s → Near a) → AtMost b (point_records s)
  unfolding point_records
  record_most [] f = tt
  record_most (a ∷ []) f = let r = f a (here refl) in (r.0, (r.1, (r.2, (r.3, tt))))
  record_most (a ∷ c ∷ l) f = let r = f a (here refl) in (r.0, (r.1, record_most (c ∷ l) (λ d i. f d (there i))))

  all_most : (ts : List (List Dart)) → ((s : List Dart) → In s ts → In s ss) → AtMost b (point_words ts)
  unfolding point_words flat
  all_most [] f = tt
  all_most (s ∷ ts) f =
      most_append b (point_records s) (point_words ts) (record_most s (λ a i. near a (in_flat ss s a (f s (here refl)) i))) (all_most ts (λ t i. f t (there i)))

  pub point_values : AtMost b (point_words ss)
  point_values = all_most ss (λ s i. i)

-- REFERENCES AND FACES

module _ {P : Picture} (F : Framed P) {ss : List (List Dart)} (D : Describes P ss) {paints : ℕ} (b : paints ≤ OUTSIDE) where
  abbrev fs : List Face
  fs = faces P ss paints

  pub reference_values : AtMost (2 * length ss) (flat (contours_of fs))
  reference_values =
      most_all (2 * length ss) (flat (contours_of fs))
      (λ r i.
      let c = flat_in (contours_of fs) r i in
      let m = ((painted F D paints b).member c.0 ((faced F D b).arranged.into c.0 c.1) r c.2).below in
      omega arith)

  region_most : (w i : ℕ) (gs : List Face) → ((f : Face) → In f gs → f.region < paints) → (k : ℕ) → get_or (face_words w i gs) (5 * k) 0 ≤ paints
  unfolding face_words
  region_most w i [] f k = omega arith
  region_most w i (g ∷ gs) f zero = omega (arith, f g (here refl))
  region_most w i (g ∷ gs) f (suc k) =
      let z : 5 * suc k ≡ suc (suc (suc (suc (suc (5 * k))))) = omega arith in
      rw z (region_most w (i + length g.contours) gs (λ h j. f h (there j)) k)

  pub region_values : (w k : ℕ) → get_or (face_words w 0 fs) (5 * k) 0 ≤ OUTSIDE
  region_values w k = omega (arith, region_most w 0 fs (λ f i. ((faced F D b).face f i).painted) k)

-- how many contours a face has
pub contours_most : (w i : ℕ) (fs : List Face) (k : ℕ) → get_or (face_words w i fs) (5 * k + 2) 0 ≤ length (contours_of fs)
unfolding face_words contours_of flat
contours_most w i [] k = omega arith
contours_most w i (f ∷ fs) zero = omega (arith, length-append f.contours (contours_of fs))
contours_most w i (f ∷ fs) (suc k) =
    let z : 5 * suc k + 2 ≡ suc (suc (suc (suc (suc (5 * k + 2))))) = omega arith in
    rw z (omega (arith, length-append f.contours (contours_of fs), contours_most w (i + length f.contours) fs k))
