-- How long a listing can be: 15 words for each corner at most, so its length is a 32-bit word at sides up to 16,384.
use Prim.Native.Nat.{ℕ, suc, ◌+◌, ◌*◌, ◌≤◌, ◌<◌}
use mathlib.Core.Bool.{Bool, true, false}
use mathlib.Core.Logic.{inl, inr}
use mathlib.Core.Path.{◌≡◌, refl, sym, ap, ◌∙◌}
use mathlib.Core.List.{List, [], ◌∷◌, map, Memᴰ as In}
use native.Mathlib.Nat.{mul-le-mul}
use native.Mathlib.Omega.{arith}
use lib.ListN.{length, get_or, length-map}
use Rattle.rules.specs.Lists.{keep, flat, among, Distinct}
use Rattle.rules.specs.Picture.{Picture, picture, OUTSIDE, Dart}
use Rattle.rules.specs.Graph.{fuel, out, corners}
use Rattle.rules.specs.Face.{no_dart, sides, Face, faces}
use Rattle.rules.specs.Records.{contours_of}
use Rattle.rules.specs.Describes.{Describes}
use Rattle.rules.specs.Calls.{Map, Accepted}
use Rattle.benches.specs.Listing.{earlier, from_earliest, put_contour, by_first_step, contours_listed, step_words, loop_words, piece_words, listing_words, listing_of}
use Rattle.rules.proofs.Ground.Lists.{flat_map_distinct, flat_map_in}
use Rattle.rules.proofs.Ground.Order.{ordered_distinct}
use Rattle.rules.proofs.Ground.Pigeonhole.{pigeonhole, rearranged_length}
use Rattle.rules.proofs.Ground.Sums.{sum, sum_even, sum_map, sum_split, sum_linear, flat_length}
use Rattle.rules.proofs.Lattice.Frame.{Framed, picture_framed}
use Rattle.rules.proofs.Lattice.Grid.{crack_out, length_darts}
use Rattle.rules.proofs.Tracing.Partition.{describes}
use Rattle.rules.proofs.Contours.Few.{contours_few}
use Rattle.rules.proofs.Faces.Faced.{Sooner, faced, one_face, faces_few}
use Rattle.benches.proofs.Pieces.{Bounds, listed_bounds}

-- the words of lists, one after the other
flat_map_length : {A : Type 0} (g : A → List ℕ) (l : List A) → length (flat (map g l)) ≡ sum (λ a. length (g a)) l
flat_map_length g l = flat_length (map g l) ∙ sum_map length g l

pub step_length : (c : List Dart) → length (flat (map step_words c)) ≡ 3 * length c
unfolding flat step_words
step_length [] = refl
step_length (a ∷ c) = omega (arith, step_length c)

pub loop_length : (c : List Dart) → length (loop_words c) ≡ 1 + 3 * length c
unfolding loop_words
loop_length c = omega (arith, step_length c)

-- the sort drops no contour
put_length : (c : List Dart) (l : List (List Dart)) → length (put_contour c l) ≡ suc (length l)
unfolding put_contour
put_length c [] = refl
put_length c (d ∷ l) = go (earlier (get_or c 0 no_dart) (get_or d 0 no_dart)) (put_length c l)
  where
    go : (t : Bool) → length (put_contour c l) ≡ suc (length l) → length {A = List Dart} (elim t [ true ↦ c ∷ d ∷ l | false ↦ d ∷ put_contour c l ]) ≡ suc (suc (length l))
    go true e = refl
    go false e = ap suc e

sort_length : (l : List (List Dart)) → length (by_first_step l) ≡ length l
unfolding by_first_step
sort_length [] = refl
sort_length (c ∷ l) = put_length c (by_first_step l) ∙ ap suc (sort_length l)

listed_length : (ss : List (List Dart)) (f : Face) → length (contours_listed ss f) ≡ length f.contours
unfolding contours_listed
listed_length ss f = sort_length (map (λ c. from_earliest (sides ss c)) f.contours) ∙ length-map f.contours (λ c. from_earliest (sides ss c))

-- contours and steps of a piece
abbrev steps_of : List (List Dart) → Face → List Dart
steps_of ss f = flat (contours_listed ss f)

piece_length : (ss : List (List Dart)) (f : Face) → length (piece_words ss f) ≡ 2 + length f.contours + 3 * length (steps_of ss f)
unfolding piece_words
piece_length ss f =
    let cs = contours_listed ss f in
    omega (arith, flat_map_length loop_words cs, sum_even (λ c. length (loop_words c)) (λ c. 1 + 3 * length c) cs (λ c i. loop_length c), sum_linear 1 3 length cs, flat_length cs, listed_length ss f)

pieces_length : (ss : List (List Dart)) (fs : List Face)
    → sum (λ f. length (piece_words ss f)) fs ≡ 2 * length fs + sum (λ f. length f.contours) fs + 3 * sum (λ f. length (steps_of ss f)) fs
pieces_length ss [] = refl
pieces_length ss (f ∷ fs) = omega (arith, piece_length ss f, pieces_length ss fs)

module _ {P : Picture} (F : Framed P) {ss : List (List Dart)} (D : Describes P ss) {paints : ℕ} (b : paints ≤ OUTSIDE) where
  abbrev fs : List Face
  fs = faces P ss paints

  faces_distinct : Distinct fs
  faces_distinct = ordered_distinct Sooner irreflexive fs (faced F D b).order
    where
      irreflexive : (f : Face) → Sooner f f → ⊥
      irreflexive f (inl h) = omega arith
      irreflexive f (inr h) = omega arith

  -- each step is a crack, and no two pieces share one
  steps_few : sum (λ f. length (steps_of ss f)) fs ≤ fuel P
  steps_few =
      let k : (f : Face) → In f fs → Bounds P f.first (contours_listed ss f) = λ f i. listed_bounds F D b f i in
      let once : Distinct (flat (map (steps_of ss) fs)) =
      flat_map_distinct (steps_of ss) fs faces_distinct (λ f i. (k f i).arranged.once)
      (λ a f g i j p q. one_face (faced F D b) f g i j (sym ((k f i).side a p).isle ∙ ((k g j).side a q).isle)) in
      omega (
        arith,
        flat_length (map (steps_of ss) fs),
        sum_map length (steps_of ss) fs,
        length_darts P,
        pigeonhole (flat (map (steps_of ss) fs)) (out (corners P)) once
            (λ a i. let q = flat_map_in (steps_of ss) fs a i in crack_out F a ((k q.0 q.1).side a q.2).cracked),
      )

  contours_sum : sum (λ f. length f.contours) fs ≤ suc P.h * suc P.w
  unfolding contours_of
  contours_sum =
      omega (arith, flat_length (map (λ f. f.contours) fs), sum_map length (λ f. f.contours) fs, rearranged_length (faced F D b).arranged, contours_few F paints D b)

  faces_low : length fs ≤ suc P.h * suc P.w
  faces_low = omega (arith, faces_few (faced F D b), rearranged_length (faced F D b).arranged, contours_few F paints D b)

  pub listing_short : (named : List ℕ) → length (listing_words ss named fs) ≤ 15 * (suc P.h * suc P.w)
  unfolding listing_words fuel
  listing_short named =
      let t : Face → Bool = λ f. among f.region named in
      omega (arith, flat_map_length (piece_words ss) (keep t fs), sum_split (λ f. length (piece_words ss f)) t fs, pieces_length ss fs, steps_few, contours_sum, faces_low)

-- so it is a word
pub listing_word : (m : Map) → Accepted m → (named : List ℕ) → length (listing_of m named) < 4294967296
unfolding listing_of picture
listing_word m a named =
    let F = picture_framed m.width m.height m.bound m.labels in
    let h : suc m.height ≤ 16385 = omega (arith, a.tall) in
    let w : suc m.width ≤ 16385 = omega (arith, a.wide) in
    omega (arith, mul-le-mul h w, listing_short F (describes F) a.word named)
