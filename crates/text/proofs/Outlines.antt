-- On a map's own stores the mark is that of #102: a contour is an outline when its own sum as in #101 is above zero.
use Rattle.std.proofs.Common.{◌≡◌, ℕ, zero, suc, pred, ◌+◌, ◌-◌, ◌*◌, ◌/◌, ◌%◌, ◌^◌, ◌<◌, ◌≤◌, Bool, true, false, cond, ltb, List, [], ◌∷◌, ◌++◌, map, length, get_or, ℤ, pos, negsuc, ◌+ℤ◌, sym, refl, ap, ◌∙◌, subst, ap₂, mul-suc, arith, length-append, get_or-append-add, le-ltb, lt-ltb, eq-eqb, ne_eqb}
use mathlib.Core.List.Memᴰ.{head as here}
use mathlib.Core.List.Memᴰ.{tail as there}
use mathlib.Core.List.{Memᴰ as In}
use native.Mathlib.Decide.{ℕ_discrete, dec_le}
use lib.ListN.{get_or-append}
use Rattle.rules.specs.Lists.{flat, upto}
use Rattle.rules.specs.Picture.{Picture, picture, Dart, to_x, to_y, ahead_x, ahead_y, turned, crack}
use Rattle.rules.specs.declared.Dir.{Dir}
use Rattle.rules.specs.declared.Dir.TheVariants.{N, E, S, W}
use Rattle.rules.specs.Graph.{segments}
use Rattle.rules.specs.Describes.{Through, Segment, Describes}
use Rattle.rules.specs.Face.{backwards, no_dart, steps, sides, faces}
use Rattle.rules.specs.Records.{point_records, point_words, segment_words, contours_of, contour_words}
use Rattle.rules.specs.Calls.{Map as LabelledMap, picture_of, cuts, cut_list, counted}
use Rattle.rules.proofs.Ground.Lists.{in_at, at_flat, upto_snoc, in_flat, flat_in}
use Rattle.rules.proofs.Ground.Sums.{sum, sum_append, sum_flat, sum_map}
use Rattle.rules.proofs.Lattice.Frame.{Framed, picture_framed}
use Rattle.rules.proofs.Lattice.Darts.{no_west, crack_y}
use Rattle.rules.proofs.Tracing.Partition.{describes}
use Rattle.rules.proofs.Contours.Painted.{painted}
use Rattle.rules.proofs.Faces.Faced.{faced}
use Rattle.rules.proofs.CutList.Records.{first_point, record_of, segment_word_lem, point_word}
use Rattle.veneer.specs.Sums.{signed, contour_sum, above_zero, outline}
use Rattle.veneer.proofs.Area.{east_of, west_of, east, west}
use Rattle.veneer.proofs.Integers.{total_difference}
use Rattle.veneer.proofs.Pieces.{signed_of_lem}
use Rattle.text.specs.Mark.{summed, eastward, step_east, segment_east, reference_east, contour_east, outlined}
use Rattle.text.proofs.Marking.{eastward_yes, eastward_no, step_forward, step_back}
use Rattle.text.proofs.Room.{Small, few_cuts}

-- SUMS that 64 bits hold

summed_is : (g : ℕ → ℕ) (n f : ℕ) → sum g (upto n f) < 2 ^ 64 → summed g n f ≡ sum g (upto n f)
unfolding summed upto
summed_is g zero f h = refl
summed_is g (suc n) f h =
    let e = ap (sum g) (upto_snoc n f) ∙ sum_append g (upto n f) ((f + n) ∷ []) in
    let ih = summed_is g n f (omega (arith, e)) in
    omega (arith, e, ih)

-- what each number from f on counts for is what the members of a list count for
sum_along : {A : Type 0} (g : ℕ → ℕ) (h : A → ℕ) (d : A) (l : List A) (f : ℕ) → ((j : ℕ) → j < length l → g (f + j) ≡ h (get_or l j d)) → sum g (upto (length l) f) ≡ sum h l
unfolding upto
sum_along g h d [] f e = refl
sum_along g h d (a ∷ l) f e =
    let z : f ≡ f + 0 = omega arith in
    ap₂ (λ (m n : ℕ). m + n) (ap g z ∙ e 0 (omega arith))
    (sum_along g h d l (suc f) (λ j k. let s : suc f + j ≡ f + suc j = omega arith in ap g s ∙ e (suc j) (omega arith)))

summed_along : {A : Type 0} (g : ℕ → ℕ) (h : A → ℕ) (d : A) (l : List A) (f : ℕ) → sum h l < 2 ^ 64 → ((j : ℕ) → j < length l → g (f + j) ≡ h (get_or l j d))
    → summed g (length l) f ≡ sum h l
summed_along g h d l f b e = let s = sum_along g h d l f e in summed_is g (length l) f (omega (arith, s, b)) ∙ s

sum_bound : {A : Type 0} (f : A → ℕ) (b : ℕ) (l : List A) → ((a : A) → In a l → f a ≤ b) → sum f l ≤ b * length l
sum_bound f b [] h = omega arith
sum_bound f b (a ∷ l) h = omega (arith, h a (here refl), sum_bound f b l (λ c i. h c (there i)), mul-suc b (length l))

-- POINTS

-- the points j and j + 1 are where the step a leaves and where it leads
record Stepping (ws : List ℕ) (j : ℕ) (a : Dart) : Type 0 where
  x : get_or ws (2 * j) 0 ≡ a.x
  y : get_or ws (2 * j + 1) 0 ≡ a.y
  to_x : get_or ws (2 * (j + 1)) 0 ≡ ahead_x a
  to_y : get_or ws (2 * (j + 1) + 1) 0 ≡ ahead_y a

first_x : (a : Dart) (l : List Dart) → get_or (point_records (a ∷ l)) 0 0 ≡ a.x
unfolding point_records
first_x a [] = refl
first_x a (b ∷ l) = refl

first_y : (a : Dart) (l : List Dart) → get_or (point_records (a ∷ l)) 1 0 ≡ a.y
unfolding point_records
first_y a [] = refl
first_y a (b ∷ l) = refl

through_points : (P : Picture) (a : Dart) (l : List Dart) → Through P a l → (j : ℕ) → j < suc (length l) → Stepping (point_records (a ∷ l)) j (get_or (a ∷ l) j no_dart)
unfolding point_records
through_points P a [] t zero h = record { x = refl; y = refl; to_x = refl; to_y = refl }
through_points P a [] t (suc j) h = absurd (omega arith)
through_points P a (b ∷ l) t zero h = record { x = refl; y = refl; to_x = first_x b l ∙ t.1; to_y = first_y b l ∙ t.2 }
through_points P a (b ∷ l) t (suc j) h =
    let r = through_points P b l t.3 j (omega arith) in
    let p : 2 * suc j ≡ suc (suc (2 * j)) = omega arith in
    let q : 2 * suc j + 1 ≡ suc (suc (2 * j + 1)) = omega arith in
    let u : 2 * (suc j + 1) ≡ suc (suc (2 * (j + 1))) = omega arith in
    let v : 2 * (suc j + 1) + 1 ≡ suc (suc (2 * (j + 1) + 1)) = omega arith in
    let at : ℕ → ℕ = λ i. get_or (point_records (a ∷ b ∷ l)) i 0 in
    record { x = ap at p ∙ r.x; y = ap at q ∙ r.y; to_x = ap at u ∙ r.to_x; to_y = ap at v ∙ r.to_y }

-- y for a step east, and for a step west
goes_east : (ps : List ℕ) (i j x y : ℕ) (d : Dir) → get_or ps (2 * i) 0 ≡ x → get_or ps (2 * i + 1) 0 ≡ y → get_or ps (2 * j) 0 ≡ to_x x d → eastward ps i j ≡ east_of d y
unfolding to_x
goes_east ps i j x y N ex ey ez = eastward_no ps i j (omega arith)
goes_east ps i j x y E ex ey ez = eastward_yes ps i j (omega arith) ∙ ey
goes_east ps i j x y S ex ey ez = eastward_no ps i j (omega arith)
goes_east ps i j x y W ex ey ez = eastward_no ps i j (let k : get_or ps (2 * j) 0 ≡ pred x = ez in omega arith)

goes_west : (ps : List ℕ) (i j x y : ℕ) (d : Dir) → (d ≡ W → 0 < x) → get_or ps (2 * i) 0 ≡ x → get_or ps (2 * j) 0 ≡ to_x x d → get_or ps (2 * j + 1) 0 ≡ to_y y d
    → eastward ps j i ≡ west_of d y
unfolding to_x to_y
goes_west ps i j x y N h ex ez ey = eastward_no ps j i (omega arith)
goes_west ps i j x y E h ex ez ey = eastward_no ps j i (omega arith)
goes_west ps i j x y S h ex ez ey = eastward_no ps j i (omega arith)
goes_west ps i j x y W h ex ez ey = eastward_yes ps j i (let k : get_or ps (2 * j) 0 ≡ pred x = ez in omega (arith, h refl)) ∙ ey

-- A SEGMENT READ BACKWARDS goes west where it went east

turned_east : (x y : ℕ) (d : Dir) → east (turned (record { x = x; y = y; d = d })) ≡ west_of d y
unfolding turned to_y
turned_east x y N = refl
turned_east x y E = refl
turned_east x y S = refl
turned_east x y W = refl

turned_west : (x y : ℕ) (d : Dir) → west (turned (record { x = x; y = y; d = d })) ≡ east_of d y
unfolding turned to_y
turned_west x y N = refl
turned_west x y E = refl
turned_west x y S = refl
turned_west x y W = refl

back_sum : (f g : Dart → ℕ) → ((a : Dart) → f (turned a) ≡ g a) → (s : List Dart) → sum f (backwards s) ≡ sum g s
unfolding backwards
back_sum f g e [] = refl
back_sum f g e (a ∷ s) = omega (arith, sum_append f (backwards s) (turned a ∷ []), e a, back_sum f g e s)

back_east : (s : List Dart) → sum east (backwards s) ≡ sum west s
back_east = back_sum east west (λ a. turned_east a.x a.y a.d)

back_west : (s : List Dart) → sum west (backwards s) ≡ sum east s
back_west = back_sum west east (λ a. turned_west a.x a.y a.d)

-- A CONTOUR among all: its words, and its references

length_at : {A : Type 0} (ls : List (List A)) (i : ℕ) → length (get_or ls i []) ≤ length (flat ls)
unfolding flat
length_at [] i = omega arith
length_at (l ∷ ls) zero = omega (arith, length-append l (flat ls))
length_at (l ∷ ls) (suc i) = omega (arith, length-append l (flat ls), length_at ls i)

record Placed (p : ℕ) (cs : List (List ℕ)) (k f : ℕ) : Type 0 where
  count : get_or (contour_words p cs) (2 * k + 1) 0 ≡ length (get_or cs k [])
  first : get_or (contour_words p cs) (2 * k) 0 ≡ p + f
  reference : (j : ℕ) → j < length (get_or cs k []) → get_or (flat cs) (f + j) 0 ≡ get_or (get_or cs k []) j 0

placed : (p : ℕ) (cs : List (List ℕ)) (k : ℕ) → k < length cs → (f : ℕ) × Placed p cs k f
unfolding contour_words flat
placed p [] k h = absurd (omega arith)
placed p (c ∷ cs) zero h = (
  0,
  record {
    count = refl;
    first = omega arith;
    reference = λ j i. let z : 0 + j ≡ j = omega arith in ap (λ (n : ℕ). get_or (c ++ flat cs) n 0) z ∙ get_or-append c (flat cs) 0 j i;
  },
)
placed p (c ∷ cs) (suc k) h =
    let r = placed (p + length c) cs k (omega arith) in
    let u : 2 * suc k + 1 ≡ suc (suc (2 * k + 1)) = omega arith in
    let v : 2 * suc k ≡ suc (suc (2 * k)) = omega arith in
    let at : ℕ → ℕ = λ i. get_or (contour_words p (c ∷ cs)) i 0 in (
      length c + r.0,
      record {
        count = ap at u ∙ r.1.count;
        first = ap at v ∙ r.1.first ∙ omega arith;
        reference = λ j i.
            let e : length c + r.0 + j ≡ length c + (r.0 + j) = omega arith in
            ap (λ (n : ℕ). get_or (c ++ flat cs) n 0) e ∙ get_or-append-add c (flat cs) (r.0 + j) 0 ∙ r.1.reference j i;
      },
    )

-- THE SIGN

abbrev to_nat : ℤ → ℕ
to_nat (pos n) = n
to_nat (negsuc n) = 0

above : (t : ℤ) (w e : ℕ) → t +ℤ pos w ≡ pos e → ltb w e ≡ above_zero t
above (pos n) w e h = go (dec_le 1 n)
  where
    k : n + w ≡ e
    k = ap to_nat h

    go : Dec (1 ≤ n) → ltb w e ≡ ltb 0 n
    go (yes l) = lt-ltb w e (omega (arith, k)) ∙ sym (lt-ltb 0 n (omega arith))
    go (no l) = le-ltb w e (omega (arith, k)) ∙ sym (le-ltb 0 n (omega arith))
above (negsuc n) w e h = le-ltb w e (go (ltb w (suc n)) (ap to_nat h))
  where
    go : (b : Bool) → to_nat (cond b (negsuc (suc n - suc w)) (pos (w - suc n))) ≡ e → e ≤ w
    go true k = omega arith
    go false k = omega arith

sign : (ss : List (List Dart)) (c : List ℕ) → ltb (sum west (sides ss c)) (sum east (sides ss c)) ≡ outline ss c
unfolding outline contour_sum
sign ss c =
    let l = sides ss c in
    above (contour_sum ss c) (sum west l) (sum east l) (total_difference signed east west (λ a. signed_of_lem a.d a.y) l)

-- ON THE WORDS of segments that describe a picture

module _ {P : Picture} (F : Framed P) {ss : List (List Dart)} (D : Describes P ss) (low : P.h ≤ 16) (short : length (flat ss) ≤ 544) where
  abbrev sw : List ℕ
  sw = segment_words P 0 ss

  abbrev pw : List ℕ
  pw = point_words ss

  long : (s : List Dart) → In s ss → 0 < length s
  long s i = go s (D.segment s i)
    where
      go : (s : List Dart) → Segment P s → 0 < length s
      go [] k = absurd k
      go (a ∷ l) k = omega arith

  points_of_lem : (s : List Dart) → Segment P s → (j : ℕ) → j < length s → Stepping (point_records s) j (get_or s j no_dart)
  points_of_lem [] k j h = absurd k
  points_of_lem (a ∷ l) k j h = through_points P a l k.0 j h

  west_leads : (x y : ℕ) (d : Dir) → crack P (record { x = x; y = y; d = d }) ≡ true → d ≡ W → 0 < x
  west_leads zero y d c e = absurd (no_west F y (subst (λ d. crack P (record { x = 0; y = y; d = d }) ≡ true) e c))
  west_leads (suc x) y d c e = omega arith

  row_most : (d : Dir) (y : ℕ) → y ≤ 16 → (east_of d y ≤ 16) × (west_of d y ≤ 16)
  row_most N y h = (omega arith, omega arith)
  row_most E y h = (omega arith, omega arith)
  row_most S y h = (omega arith, omega arith)
  row_most W y h = (omega arith, omega arith)

  module _ (i : ℕ) (h : i < length ss) where
    abbrev s : List Dart
    s = get_or ss i []

    count_is : get_or sw (8 * i + 1) 0 ≡ suc (length s)
    unfolding record_of
    count_is = segment_word_lem P ss 0 i 1 (first_point ss i) (omega arith) h (omega arith)

    steps_are : get_or sw (8 * i + 1) 0 - 1 ≡ length s
    steps_are = omega (arith, count_is)

    first_is : get_or sw (8 * i) 0 ≡ first_point ss i
    unfolding record_of
    first_is = let z : 8 * i ≡ 8 * i + 0 = omega arith in ap (λ (n : ℕ). get_or sw n 0) z ∙ segment_word_lem P ss 0 i 0 (first_point ss i) (omega arith) h (omega arith)

    -- the words of its points
    word : (k n : ℕ) → n ≡ 2 * first_point ss i + k → k < 2 * suc (length s) → get_or pw n 0 ≡ get_or (point_records s) k 0
    word k n e b = ap (λ (n : ℕ). get_or pw n 0) e ∙ (point_word k ss long i h b).1

    cracked : (a : Dart) → In a s → crack P a ≡ true
    cracked a m = D.cracked a (at_flat ss a i m)

    row : (a : Dart) → In a s → (east a ≤ 16) × (west a ≤ 16)
    row a m = row_most a.d a.y (omega (arith, crack_y F a (cracked a m), low))

    sum_small : (f : Dart → ℕ) → ((a : Dart) → In a s → f a ≤ 16) → sum f s ≤ 8704
    sum_small f e = omega (arith, sum_bound f 16 s e, length_at ss i, short)

    east_small : sum east s ≤ 8704
    east_small = sum_small east (λ a m. (row a m).0)

    west_small : sum west s ≤ 8704
    west_small = sum_small west (λ a m. (row a m).1)

    module _ (j : ℕ) (l : j < length s) where
      abbrev a : Dart
      a = get_or s j no_dart

      abbrev at : ℕ
      at = first_point ss i + j

      p : Stepping (point_records s) j a
      p = points_of_lem s (D.segment s (in_at ss i [] h)) j l

      e_x : get_or pw (2 * at) 0 ≡ a.x
      e_x = word (2 * j) (2 * at) (omega arith) (omega arith) ∙ p.x

      e_y : get_or pw (2 * at + 1) 0 ≡ a.y
      e_y = word (2 * j + 1) (2 * at + 1) (omega arith) (omega arith) ∙ p.y

      n_x : get_or pw (2 * (at + 1)) 0 ≡ ahead_x a
      n_x = word (2 * (j + 1)) (2 * (at + 1)) (omega arith) (omega arith) ∙ p.to_x

      n_y : get_or pw (2 * (at + 1) + 1) 0 ≡ ahead_y a
      n_y = word (2 * (j + 1) + 1) (2 * (at + 1) + 1) (omega arith) (omega arith) ∙ p.to_y

      step_east_lem : step_east pw 0 at ≡ east a
      step_east_lem = step_forward pw 0 at refl ∙ goes_east pw at (at + 1) a.x a.y a.d e_x e_y n_x

      step_west : (way : ℕ) → (way ≡ 0 → ⊥) → step_east pw way at ≡ west a
      step_west way n =
          step_back pw way at n
          ∙ goes_west pw at (at + 1) a.x a.y a.d (west_leads a.x a.y a.d (cracked a (in_at s j no_dart l))) e_x n_x n_y

    forward : (way : ℕ) → way ≡ 0 → segment_east sw pw way i ≡ sum east s
    unfolding segment_east
    forward way e =
        ap₂ (summed (step_east pw way)) steps_are first_is
        ∙ ap (λ (w : ℕ). summed (step_east pw w) (length s) (first_point ss i)) e
        ∙ summed_along (step_east pw 0) east no_dart s (first_point ss i) (omega (arith, east_small)) step_east_lem

    back : (way : ℕ) → (way ≡ 0 → ⊥) → segment_east sw pw way i ≡ sum west s
    unfolding segment_east
    back way n =
        ap₂ (summed (step_east pw way)) steps_are first_is
        ∙ summed_along (step_east pw way) west no_dart s (first_point ss i) (omega (arith, west_small)) (λ j l. step_west j l way n)

  -- A REFERENCE r, and the same turned round
  module _ (r : ℕ) (b : r < 2 * length ss) where
    abbrev half : r / 2 < length ss
    half = omega (arith, b)

    abbrev Sums : Type 0
    Sums = (segment_east sw pw ((r + 0) % 2) (r / 2) ≡ sum east (steps ss r)) × (segment_east sw pw ((r + 1) % 2) (r / 2) ≡ sum west (steps ss r))

    reference_sums : Sums
    unfolding steps
    reference_sums = go (ℕ_discrete (r % 2) 0)
      where
        go : Dec (r % 2 ≡ 0) → Sums
        go (yes e) = rw (eq-eqb (r % 2) 0 e, steps) (forward (r / 2) half ((r + 0) % 2) (omega arith), back (r / 2) half ((r + 1) % 2) (λ z. omega arith))
        go (no n) =
            rw (ne_eqb (r % 2) 0 n, steps) (
              back (r / 2) half ((r + 0) % 2) (λ z. n (omega arith)) ∙ sym (back_east (get_or ss (r / 2) [])),
              forward (r / 2) half ((r + 1) % 2) (omega arith) ∙ sym (back_west (get_or ss (r / 2) [])),
            )

    steps_small : (sum east (steps ss r) ≤ 8704) × (sum west (steps ss r) ≤ 8704)
    unfolding steps
    steps_small = go (ℕ_discrete (r % 2) 0)
      where
        go : Dec (r % 2 ≡ 0) → (sum east (steps ss r) ≤ 8704) × (sum west (steps ss r) ≤ 8704)
        go (yes e) = rw (eq-eqb (r % 2) 0 e, steps) (east_small (r / 2) half, west_small (r / 2) half)
        go (no n) =
            rw (ne_eqb (r % 2) 0 n, steps)
            (omega (arith, back_east (get_or ss (r / 2) []), west_small (r / 2) half), omega (arith, back_west (get_or ss (r / 2) []), east_small (r / 2) half))

  -- A CONTOUR among contours
  module _ (cs : List (List ℕ)) (few : length (flat cs) ≤ 1088) (below : (r : ℕ) → In r (flat cs) → r < 2 * length ss) (k : ℕ) (h : k < length cs) where
    abbrev c : List ℕ
    c = get_or cs k []

    in_all : (r : ℕ) → In r c → r < 2 * length ss
    in_all r i = below r (in_flat cs c r (in_at cs k [] h) i)

    sides_sum : (f : Dart → ℕ) → sum f (sides ss c) ≡ sum (λ r. sum f (steps ss r)) c
    unfolding sides
    sides_sum f = sum_flat f (map (steps ss) c) ∙ sum_map (sum f) (steps ss) c

    turned_sum : (turn : ℕ) (f : Dart → ℕ) → ((r : ℕ) → In r c → sum f (steps ss r) ≤ 8704) → ((r : ℕ) → In r c → segment_east sw pw ((r + turn) % 2) (r / 2) ≡ sum f (steps ss r))
        → contour_east sw pw (flat cs) (contour_words 0 cs) turn k ≡ sum f (sides ss c)
    unfolding contour_east reference_east
    turned_sum turn f small each =
        let p = placed 0 cs k h in
        let each-sum : ℕ → ℕ = λ r. sum f (steps ss r) in
        ap₂ (summed (reference_east sw pw (flat cs) turn)) p.1.count (p.1.first ∙ omega arith)
        ∙ summed_along (reference_east sw pw (flat cs) turn) each-sum 0 c p.0 (omega (arith, sum_bound each-sum 8704 c small, length_at cs k, few))
        (λ j l. ap (λ (r : ℕ). segment_east sw pw ((r + turn) % 2) (r / 2)) (p.1.reference j l) ∙ each (get_or c j 0) (in_at c j 0 l))
        ∙ sym (sides_sum f)

    mark_is : outlined sw pw (flat cs) (contour_words 0 cs) k ≡ outline ss c
    unfolding outlined
    mark_is =
        ap₂ ltb (turned_sum 1 west (λ r i. (steps_small r (in_all r i)).1) (λ r i. (reference_sums r (in_all r i)).1))
        (turned_sum 0 east (λ r i. (steps_small r (in_all r i)).0) (λ r i. (reference_sums r (in_all r i)).0))
        ∙ sign ss c

-- OF EVERY MAP that is printed: the k-th contour's mark, from the words of the stores, is that of its own sum
module _ (m : LabelledMap) (small : Small m) where
  abbrev cut : List (List Dart)
  cut = segments (picture_of m)

  abbrev found : List (List ℕ)
  found = contours_of (faces (picture_of m) cut m.paints)

  pub marks_are_outlines : (k : ℕ) → k < length found → outlined (cut_list m).segments (cut_list m).points (cut_list m).references (cut_list m).contours k ≡ outline cut (get_or found k [])
  unfolding cut_list cuts picture counted
  marks_are_outlines k h =
      let F = picture_framed m.width m.height m.bound m.labels in
      let few = few_cuts m small in
      mark_is F (describes F) small.low few.steps found few.references
      (λ r i.
      let c = flat_in found r i in
      ((painted F (describes F) m.paints small.word).member c.0 ((faced F (describes F) small.word).arranged.into c.0 c.1) r c.2).below)
      k h
