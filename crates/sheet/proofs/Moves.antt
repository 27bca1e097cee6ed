-- THE THEOREMS of the moves: a run over the stores of a cut list makes each segment's moves in order and then says the end for ever; there is a cut for
-- each step; a segment read backwards gives the same points; no corner of a map is divided by a side of 0.
use Prim.Native.Nat.{ℕ, zero, suc, ◌+◌, ◌*◌, ◌≤◌, ◌<◌}
use mathlib.Core.Bool.{Bool, true, false}
use mathlib.Core.Path.{◌≡◌, refl, sym, ap, ap₂, subst, ◌∙◌}
use mathlib.Core.List.Memᴰ.{head as here}
use mathlib.Core.List.Memᴰ.{not-nil}
use mathlib.Core.List.Memᴰ.{tail as there}
use mathlib.Core.List.{List, [], ◌∷◌, ◌++◌, map, map-append, append-nil, reverse, reverse-cons, Memᴰ as In}
use native.Mathlib.Nat.{zero-add, add-zero}
use native.Mathlib.Omega.{arith}
use borrow.Author.Tests.{lt-ltb, eq-eqb, ne_eqb}
use lib.ListN.{length, get_or, drop, replicate, length-append, length-map}
use lib.Ieee.{Float}
use Rattle.rules.specs.Lists.{upto, flat}
use Rattle.rules.specs.Picture.{Picture, picture, Dart, ahead_x, ahead_y, turned, crack}
use Rattle.rules.specs.Graph.{segments}
use Rattle.rules.specs.Face.{backwards}
use Rattle.rules.specs.Records.{point_records, point_words, segment_words}
use Rattle.rules.specs.Describes.{Segment, Describes}
use Rattle.rules.specs.Calls.{Map, picture_of, cuts, cut_list, counted, store_after}
use Rattle.rules.proofs.Ground.Lists.{in_at, in_flat}
use Rattle.rules.proofs.Lattice.Frame.{Framed, picture_framed}
use Rattle.rules.proofs.Lattice.Darts.{turned_crack, crack_x, crack_y, crack_to_x, crack_to_y}
use Rattle.rules.proofs.References.Backwards.{backwards_in}
use Rattle.rules.proofs.Tracing.Partition.{describes}
use Rattle.rules.proofs.CutList.Lengths.{length_segments}
use Rattle.reader.specs.Reading.{Said as Read, say_at as read_at, reads}
use Rattle.reader.proofs.Segments.{corners, read_back, first, count, inside}
use Rattle.sheet.specs.Sheet.{along, across_of, down_of, Action, travel, cut, end, corners_of, travel_to, cut_to, through, moves}
use Rattle.sheet.specs.Moving.{Said, did, at_end, as_move, start_of, makes}
use Rattle.sheet.specs.declared.Sheet.{Sheet}
use Rattle.sheet.specs.declared.Mover.{Mover}
use Rattle.sheet.proofs.Corners.{spoken, corners_words, corners_back}
use Rattle.sheet.proofs.Runs.{Lies, all_at, run_all}

-- LISTS

map_reverse : {A B : Type 0} (f : A → B) (l : List A) → map f (reverse l) ≡ reverse (map f l)
map_reverse f [] = refl
map_reverse f (a ∷ l) =
    ap (map f) (reverse-cons a l) ∙ map-append f (reverse l) (a ∷ []) ∙ ap (λ m. m ++ (f a ∷ [])) (map_reverse f l) ∙ sym (reverse-cons (f a) (map f l))

map_at : {A B : Type 0} (f : ℕ → B) (g : A → B) (l : List A) (d : A) (a : ℕ) → ((i : ℕ) → i < length l → f (a + i) ≡ g (get_or l i d)) → map f (upto (length l) a) ≡ map g l
unfolding upto
map_at f g [] d a h = refl
map_at f g (x ∷ l) d a h =
    let z : a + 0 ≡ a = omega arith in
    ap₂ (λ y m. y ∷ m) (sym (ap f z) ∙ h 0 (omega arith))
    (map_at f g l d (suc a) (λ i k. let s : suc a + i ≡ a + suc i = omega arith in ap f s ∙ h (suc i) (omega arith)))

flat_map_map : {A B C : Type 0} (f : B → C) (g : A → List B) (l : List A) → flat (map (λ a. map f (g a)) l) ≡ map f (flat (map g l))
unfolding flat
flat_map_map f g [] = refl
flat_map_map f g (a ∷ l) = ap (λ m. map f (g a) ++ m) (flat_map_map f g l) ∙ sym (map-append f (g a) (flat (map g l)))

map_twice : {A B C : Type 0} (f : A → B) (g : B → C) (l : List A) → map g (map f l) ≡ map (λ a. g (f a)) l
map_twice f g [] = refl
map_twice f g (a ∷ l) = ap (λ m. g (f a) ∷ m) (map_twice f g l)

-- ONE SEGMENT, by what the reader says

reads_each : (ws : List ℕ) (f n : ℕ) (b : Bool) (k p : ℕ) → p + k ≤ n → reads ws f n b k p ≡ map (read_at ws f n b) (upto k p)
unfolding reads upto
reads_each ws f n b zero p h = refl
reads_each ws f n b (suc k) p h =
    let s : p + 1 ≡ suc p = omega arith in
    rw (lt-ltb p n (omega arith)) (ap (λ (l : List Read). read_at ws f n b p ∷ l) (reads_each ws f n b k (p + 1) (omega arith) ∙ ap (λ (q : ℕ). map (read_at ws f n b) (upto k q)) s))

-- what is read from a place on, as moves
unfoldable pub as_moves : Sheet → ℕ → ℕ → ℕ → List Read → List Said
as_moves t w h p [] = []
as_moves t w h p (r ∷ rs) = as_move t w h p r.number r.corner ∷ as_moves t w h (suc p) rs

module _ (t : Sheet) (w h : ℕ) where
  moves_each : (r : ℕ → Read) (k p : ℕ) → map (λ q. as_move t w h q (r q).number (r q).corner) (upto k p) ≡ as_moves t w h p (map r (upto k p))
  unfolding as_moves upto
  moves_each r zero p = refl
  moves_each r (suc k) p = ap (λ (l : List Said). as_move t w h p (r p).number (r p).corner ∷ l) (moves_each r k (suc p))

  moves_cut : (p : ℕ) (cs : List (ℕ × ℕ)) → as_moves t w h (suc p) (map spoken cs) ≡ map did (map (cut_to t w h) cs)
  unfolding as_moves
  moves_cut p [] = refl
  moves_cut p (c ∷ cs) = rw (ne_eqb (suc p) 0 (λ e. omega arith)) (ap (λ (l : List Said). did (cut_to t w h c) ∷ l) (moves_cut (suc p) cs))

  moves_through : (cs : List (ℕ × ℕ)) → as_moves t w h 0 (map spoken cs) ≡ map did (through t w h cs)
  unfolding as_moves through
  moves_through [] = refl
  moves_through (c ∷ cs) = ap (λ (l : List Said). did (travel_to t w h c) ∷ l) (moves_cut 0 cs)

words_are : (P : Picture) (s : List Dart) → Segment P s → corners (point_records s) ≡ map spoken (corners_of s)
words_are P [] g = absurd g
words_are P (a ∷ l) g = corners_words P a l g.0

back_is : {P : Picture} (F : Framed P) (s : List Dart) → Segment P s → ((b : Dart) → In b s → crack P b ≡ true) → corners_of (backwards s) ≡ reverse (corners_of s)
back_is F [] g c = absurd g
back_is F (a ∷ l) g c = corners_back F a l g.0 c

-- the steps of a segment as the mover reads them
abbrev pub way : Bool → List Dart → List Dart
way true s = backwards s
way false s = s

-- its steps are cracks, either way
pub way_cracked : {P : Picture} (F : Framed P) (b : Bool) (s : List Dart) → ((a : Dart) → In a s → crack P a ≡ true) → (a : Dart) → In a (way b s) → crack P a ≡ true
way_cracked F false s k a i = k a i
way_cracked {P} F true s k a i = let r = backwards_in s a i in subst (λ (c : Dart). crack P c ≡ true) (sym r.2) (turned_crack F r.0 (k r.0 r.1))

length_backwards : (s : List Dart) → length (backwards s) ≡ length s
unfolding backwards
length_backwards [] = refl
length_backwards (a ∷ l) = let r = length_backwards l in omega (arith, length-append (backwards l) (turned a ∷ []))

length_way : (b : Bool) (s : List Dart) → length (way b s) ≡ length s
length_way false s = refl
length_way true s = length_backwards s

same_steps : (b : Bool) (ss : List (List Dart)) → length (flat (map (way b) ss)) ≡ length (flat ss)
unfolding flat
same_steps b [] = refl
same_steps b (s ∷ ss) =
    let r = same_steps b ss in omega (arith, length_way b s, length-append (way b s) (flat (map (way b) ss)), length-append s (flat ss))

-- OVER ANY SEGMENTS that describe a picture, and whatever follows their words in the stores
module _ {P : Picture} (F : Framed P) {ss : List (List Dart)} (D : Describes P ss) (after-segments after-points : List ℕ) (t : Sheet) (w h : ℕ) where
  abbrev segs : List ℕ
  segs = segment_words P 0 ss ++ after-segments

  abbrev points : List ℕ
  points = point_words ss ++ after-points

  abbrev mover : Bool → Mover
  mover b = start_of t w h (length ss) b

  lies : (i : ℕ) → i < length ss → Lies segs points i
  lies i k = record {
    record_inside = omega (arith, length_segments P 0 ss, length-append (segment_words P 0 ss) after-segments);
    part_inside = rw (first F D after-segments after-points i k, count F D after-segments after-points i k) (inside F D after-segments after-points i k);
  }

  abbrev s : ℕ → List Dart
  s i = get_or ss i []

  is_segment : (i : ℕ) → i < length ss → Segment P (s i)
  is_segment i k = D.segment (s i) (in_at ss i [] k)

  is_cracked : (i : ℕ) → i < length ss → (b : Dart) → In b (s i) → crack P b ≡ true
  is_cracked i k b j = D.cracked b (in_flat ss (s i) b (in_at ss i [] k) j)

  module _ (b : Bool) (i : ℕ) where
    -- the moves of a segment are what the reader reads of it
    all_read : all_at segs points (mover b) i ≡ as_moves t w h 0 (reads points (get_or segs (8 * i) 0) (get_or segs (8 * i + 1) 0) b (get_or segs (8 * i + 1) 0 + 0) 0)
    all_read =
        moves_each t w h (read_at points (get_or segs (8 * i) 0) (get_or segs (8 * i + 1) 0) b) (get_or segs (8 * i + 1) 0) 0
        ∙ ap (as_moves t w h 0) (sym (reads_each points (get_or segs (8 * i) 0) (get_or segs (8 * i + 1) 0) b (get_or segs (8 * i + 1) 0) 0 (omega arith)))
        ∙ ap (λ (k : ℕ). as_moves t w h 0 (reads points (get_or segs (8 * i) 0) (get_or segs (8 * i + 1) 0) b k 0)) (sym (add-zero (get_or segs (8 * i + 1) 0)))

  forward : (i : ℕ) → i < length ss → all_at segs points (mover false) i ≡ map did (through t w h (corners_of (s i)))
  forward i k =
      all_read false i
      ∙ ap (as_moves t w h 0) ((read_back F D after-segments after-points i k).forward 0 ∙ append-nil (corners (point_records (s i))) ∙ words_are P (s i) (is_segment i k))
      ∙ moves_through t w h (corners_of (s i))

  reversed : (i : ℕ) → i < length ss → all_at segs points (mover true) i ≡ map did (through t w h (corners_of (backwards (s i))))
  reversed i k =
      all_read true i
      ∙ ap (as_moves t w h 0)
      ((read_back F D after-segments after-points i k).reversed 0 ∙ append-nil (reverse (corners (point_records (s i))))
      ∙ ap (λ (l : List Read). reverse l) (words_are P (s i) (is_segment i k))
      ∙ sym (map_reverse spoken (corners_of (s i)))
      ∙ ap (map spoken) (sym (back_is F (s i) (is_segment i k) (is_cracked i k))))
      ∙ moves_through t w h (corners_of (backwards (s i)))

  each : (b : Bool) (i : ℕ) → i < length ss → all_at segs points (mover b) i ≡ map did (through t w h (corners_of (way b (s i))))
  each true i k = reversed i k
  each false i k = forward i k

  -- A RUN makes the moves of every segment in order, each read forward or each backwards, and then says the end at every later call
  pub run_moves : (b : Bool) (calls : ℕ)
      → makes segs points (length (moves t w h (map (way b) ss)) + calls) (start_of t w h (length ss) b) ≡ map did (moves t w h (map (way b) ss)) ++ replicate calls at_end
  unfolding moves
  run_moves b calls =
      let made = moves t w h (map (way b) ss) in
      let same : flat (map (all_at segs points (mover b)) (upto (length ss) 0)) ≡ map did made = all_same b in
      let long : length (flat (map (all_at segs points (mover b)) (upto (length ss) 0))) ≡ length made = ap length same ∙ length-map made did in
      rw (← long) (run_all segs points (mover b) lies calls ∙ ap (λ (l : List Said). l ++ replicate calls at_end) same)
    where
      all_same : (b : Bool) → flat (map (all_at segs points (mover b)) (upto (length ss) 0)) ≡ map did (flat (map (λ s. through t w h (corners_of s)) (map (way b) ss)))
      all_same b =
          ap flat (map_at (all_at segs points (mover b)) (λ s. map did (through t w h (corners_of (way b s)))) ss [] 0 (λ i k. rw zero-add (each b i k)))
          ∙ flat_map_map did (λ s. through t w h (corners_of (way b s))) ss
          ∙ ap (λ (l : List (List Action)). map did (flat l)) (sym (map_twice (way b) (λ s. through t w h (corners_of s)) ss))

-- A CUT FOR EACH STEP

abbrev pub cut_count : List Action → ℕ
cut_count [] = 0
cut_count (travel x y ∷ l) = cut_count l
cut_count (cut x y ∷ l) = suc (cut_count l)
cut_count (end ∷ l) = cut_count l

count_append : (l m : List Action) → cut_count (l ++ m) ≡ cut_count l + cut_count m
count_append [] m = omega arith
count_append (travel x y ∷ l) m = count_append l m
count_append (cut x y ∷ l) m = let r = count_append l m in omega arith
count_append (end ∷ l) m = count_append l m

module _ (t : Sheet) (w h : ℕ) where
  count_cuts : (cs : List (ℕ × ℕ)) → cut_count (map (cut_to t w h) cs) ≡ length cs
  count_cuts [] = refl
  count_cuts (c ∷ cs) = ap suc (count_cuts cs)

  count_through : (s : List Dart) → cut_count (through t w h (corners_of s)) ≡ length s
  unfolding through corners_of
  count_through [] = refl
  count_through (a ∷ l) = count_cuts (map (λ b. (ahead_x b, ahead_y b)) (a ∷ l)) ∙ length-map (a ∷ l) (λ b. (ahead_x b, ahead_y b))

  pub cuts_are_steps : (ss : List (List Dart)) → cut_count (moves t w h ss) ≡ length (flat ss)
  unfolding moves flat
  cuts_are_steps [] = refl
  cuts_are_steps (s ∷ ss) =
      count_append (through t w h (corners_of s)) (moves t w h ss)
      ∙ let a = count_through s in let b = cuts_are_steps ss in omega (arith, length-append s (flat ss))

-- BACKWARDS, THE SAME POINTS

abbrev pub targets : List Action → List (Float × Float)
targets [] = []
targets (travel x y ∷ l) = (x, y) ∷ targets l
targets (cut x y ∷ l) = (x, y) ∷ targets l
targets (end ∷ l) = targets l

module _ (t : Sheet) (w h : ℕ) where
  abbrev point_of : ℕ × ℕ → Float × Float
  point_of c = (across_of t w c.0, down_of t h c.1)

  targets_cut : (cs : List (ℕ × ℕ)) → targets (map (cut_to t w h) cs) ≡ map point_of cs
  targets_cut [] = refl
  targets_cut (c ∷ cs) = ap (λ (l : List (Float × Float)). point_of c ∷ l) (targets_cut cs)

  targets_through : (cs : List (ℕ × ℕ)) → targets (through t w h cs) ≡ map point_of cs
  unfolding through
  targets_through [] = refl
  targets_through (c ∷ cs) = ap (λ (l : List (Float × Float)). point_of c ∷ l) (targets_cut cs)

  pub same_points : {P : Picture} (F : Framed P) (s : List Dart) → Segment P s → ((b : Dart) → In b s → crack P b ≡ true)
      → targets (through t w h (corners_of (backwards s))) ≡ reverse (targets (through t w h (corners_of s)))
  same_points F s g c =
      targets_through (corners_of (backwards s)) ∙ ap (map point_of) (back_is F s g c) ∙ map_reverse point_of (corners_of s)
      ∙ ap (λ (l : List (Float × Float)). reverse l) (sym (targets_through (corners_of s)))

-- NO SIDE OF 0 IS DIVIDED BY

ahead_on_map : {P : Picture} (F : Framed P) (s : List Dart) → ((b : Dart) → In b s → crack P b ≡ true) → (c : ℕ × ℕ) → In {A = ℕ × ℕ} c (map (λ b. (ahead_x b, ahead_y b)) s)
    → (c.0 ≤ P.w) × (c.1 ≤ P.h)
ahead_on_map F [] k c i = absurd (not-nil i)
ahead_on_map F (a ∷ l) k c (here e) = let q = k a (here refl) in (rw e (crack_to_x F a q), rw e (crack_to_y F a q))
ahead_on_map F (a ∷ l) k c (there i) = ahead_on_map F l (λ b j. k b (there j)) c i

-- every corner of a segment lies on the map
pub corner_on_map : {P : Picture} (F : Framed P) (s : List Dart) → ((b : Dart) → In b s → crack P b ≡ true) → (c : ℕ × ℕ) → In c (corners_of s) → (c.0 ≤ P.w) × (c.1 ≤ P.h)
unfolding corners_of
corner_on_map F [] k c i = absurd (not-nil i)
corner_on_map F (a ∷ l) k c (here e) = let q = k a (here refl) in let x = crack_x F a q in let y = crack_y F a q in (rw e x, rw e y)
corner_on_map F (a ∷ l) k c (there i) = ahead_on_map F (a ∷ l) k c i

-- and on a side of 0 each is the side's end
pub nothing_divided : (n : ℕ) (side : Float) → n ≤ 0 → along n 0 side ≡ side
unfolding along
nothing_divided n side h = let e : n ≡ 0 = omega arith in rw (eq-eqb n 0 e, along)

-- THE CALL: the segment store and the point store as it leaves them when it answers 0, and the segments that it counts
module _ (t : Sheet) (m : Map) (segs points : List ℕ) where
  abbrev drawn : List (List Dart)
  drawn = segments (picture_of m)

  abbrev framed : Framed (picture_of m)
  framed = picture_framed m.width m.height m.bound m.labels

  counted_segments : (counted 0 (cut_list m)).segments ≡ length drawn
  unfolding cut_list cuts counted
  counted_segments = omega (arith, length_segments (picture_of m) 0 drawn)

  pub whole_moves : (b : Bool) (calls : ℕ)
      → let made = moves t m.width m.height (map (way b) drawn) in
      makes (store_after 0 (cut_list m).segments segs) (store_after 0 (cut_list m).points points) (length made + calls)
      (start_of t m.width m.height (counted 0 (cut_list m)).segments b)
      ≡ map did made ++ replicate calls at_end
  unfolding cut_list cuts store_after
  whole_moves b calls =
      rw counted_segments
      (run_moves framed (describes framed) (drop (length (cut_list m).segments) segs) (drop (length (cut_list m).points) points) t m.width m.height b calls)

  -- a cut for each of the map's steps, whichever way the segments are read
  pub whole_cuts : (b : Bool) → cut_count (moves t m.width m.height (map (way b) drawn)) ≡ (cut_list m).steps
  unfolding cut_list cuts
  whole_cuts b = cuts_are_steps t m.width m.height (map (way b) drawn) ∙ same_steps b drawn

  -- no corner is divided by a side of 0
  pub whole_on_map : (s : List Dart) → In s drawn → (c : ℕ × ℕ) → In c (corners_of s) → (c.0 ≤ m.width) × (c.1 ≤ m.height)
  unfolding picture
  whole_on_map s i c j = corner_on_map framed s (λ a k. (describes framed).cracked a (in_flat drawn s a i k)) c j
