-- The pixels of an island against its sides: the rows of its sides east are those of its sides west, and one for each pixel.
-- Each pixel has an edge below, one row further than the edge above it, and an edge between two pixels of the island is both.
use Prim.Native.Nat.{ℕ, suc, ◌+◌, ◌/◌}
use mathlib.Core.Bool.{Bool, false, not, true≢false}
use mathlib.Core.Path.{◌≡◌, refl, sym, ap, ◌∙◌, subst}
use mathlib.Core.List.Memᴰ.{cast as in-cast}
use mathlib.Core.List.Memᴰ.{map as in_map}
use mathlib.Core.List.Memᴰ.{of_map}
use mathlib.Core.List.{List, map, Memᴰ as In}
use native.Mathlib.Omega.{arith}
use lib.ListN.{length}
use borrow.Author.Tests.{not-true}
use Rattle.rules.specs.Lists.{keep, Distinct, among}
use Rattle.rules.specs.Picture.{Picture, OUTSIDE, same_dir, Dart, dart}
use Rattle.rules.specs.declared.Dir.{Dir}
use Rattle.rules.specs.declared.Dir.TheVariants.{N, E, S, W}
use Rattle.rules.specs.Face.{label_of, beside}
use Rattle.rules.proofs.Islands.Members.{pixels_of, own, IsSide}
use Rattle.rules.proofs.Ground.Lists.{keep_in, in_keep, keep_distinct, among_in, in_among, not_among, none_among, map_distinct}
use Rattle.rules.proofs.Lattice.Directions.{same_dir_eq}
use Rattle.rules.proofs.Lattice.Frame.{Framed}
use Rattle.rules.proofs.Islands.Pixels.{below_row}
use Rattle.rules.proofs.Lattice.Darts.{dart_path}
use Rattle.rules.proofs.Ground.Sums.{sum, sum_even, sum_suc, sum_split, sum_keep, sum_same, sum_map}
use Rattle.rules.proofs.Ground.Pigeonhole.{Rearranged}
use Rattle.veneer.proofs.Rims.{bottom, top, beside_bottom, beside_top, own_distinct, side_own, bottom_side, side_bottom, top_side, side_top}

-- the row of a step east, and of a step west
abbrev pub east_of : Dir → ℕ → ℕ
east_of N y = 0
east_of E y = y
east_of S y = 0
east_of W y = 0

abbrev pub west_of : Dir → ℕ → ℕ
west_of N y = 0
west_of E y = 0
west_of S y = 0
west_of W y = y

abbrev pub east : Dart → ℕ
east a = east_of a.d a.y

abbrev pub west : Dart → ℕ
west a = west_of a.d a.y

east_none : (d : Dir) (y : ℕ) → same_dir d E ≡ false → east_of d y ≡ 0
east_none N y e = refl
east_none E y e = absurd (true≢false e)
east_none S y e = refl
east_none W y e = refl

west_none : (d : Dir) (y : ℕ) → same_dir d W ≡ false → west_of d y ≡ 0
west_none N y e = refl
west_none E y e = refl
west_none S y e = refl
west_none W y e = absurd (true≢false e)

module _ {P : Picture} (F : Framed P) (p : ℕ) (o : label_of P p ≡ OUTSIDE → ⊥) where
  abbrev isle : List ℕ
  isle = pixels_of P p

  -- THOSE WITH ANOTHER ONE BELOW, and those ones
  abbrev tied : ℕ → Bool
  tied q = among (q + P.w) isle

  abbrev lowers : List ℕ
  lowers = map (λ q. q + P.w) (keep tied isle)

  abbrev hung : ℕ → Bool
  hung q = among q lowers

  tied_in : (q : ℕ) → In q (keep tied isle) → In q isle × In (q + P.w) isle
  tied_in q i = let k = keep_in tied isle q i in (k.0, among_in (q + P.w) isle k.1)

  in_lowers : (q r : ℕ) → In q isle → In r isle → r + P.w ≡ q → In q lowers
  in_lowers q r i j e = in-cast (sym e) (in_map (λ q. q + P.w) (in_keep tied isle r (in_among (r + P.w) isle (in-cast e i)) j))

  lowers_in : (q : ℕ) → In q lowers → (r : ℕ) × In r isle × (r + P.w ≡ q) × In q isle
  lowers_in q i =
      let k = of_map (λ q. q + P.w) (keep tied isle) i in
      let u = tied_in k.0 k.1 in
      (k.0, u.0, k.2, in-cast (sym k.2) u.1)

  hung_all : Rearranged (keep hung isle) lowers
  hung_all = record {
    first = keep_distinct hung isle (own_distinct F p o);
    second = map_distinct (λ q. q + P.w) (keep tied isle) (keep_distinct tied isle (own_distinct F p o)) (λ q r i j e. omega arith);
    into = λ q i. among_in q lowers (keep_in hung isle q i).1;
    onto = λ q i. in_keep hung isle q (in_among q lowers i) (lowers_in q i).3;
  }

  -- THE OTHERS
  abbrev floors : List ℕ
  floors = keep (λ q. not (tied q)) isle

  abbrev roofs : List ℕ
  roofs = keep (λ q. not (hung q)) isle

  rims : sum (λ q. suc (q / P.w)) floors ≡ sum (λ q. q / P.w) roofs + length isle
  rims =
      let a = sum_split (λ q. suc (q / P.w)) tied isle in
      let b = sum_split (λ q. q / P.w) hung isle in
      let c = sum_same (λ q. q / P.w) hung_all in
      let d = sum_map (λ q. q / P.w) (λ q. q + P.w) (keep tied isle) in
      let e = sum_even (λ q. (q + P.w) / P.w) (λ q. suc (q / P.w)) (keep tied isle) (λ q i. below_row P.w P.h q (own P p q (tied_in q i).0).0) in
      let f = sum_suc (λ q. q / P.w) isle in
      omega arith

  floor_in : (q : ℕ) → In q floors → In q isle × (In (q + P.w) isle → ⊥)
  floor_in q i = let k = keep_in (λ q. not (tied q)) isle q i in (k.0, not_among (q + P.w) isle (not-true (tied q) k.1))

  in_floor : (q : ℕ) → In q isle → (In (q + P.w) isle → ⊥) → In q floors
  in_floor q i n = in_keep (λ q. not (tied q)) isle q (ap not (none_among (q + P.w) isle n)) i

  roof_in : (q : ℕ) → In q roofs → In q isle × ((r : ℕ) → In r isle → r + P.w ≡ q → ⊥)
  roof_in q i =
      let k = keep_in (λ q. not (hung q)) isle q i in
      (k.0, λ r j e. not_among q lowers (not-true (hung q) k.1) (in_lowers q r k.0 j e))

  in_roof : (q : ℕ) → In q isle → ((r : ℕ) → In r isle → r + P.w ≡ q → ⊥) → In q roofs
  in_roof q i n = in_keep (λ q. not (hung q)) isle q (ap not (none_among q lowers (λ j. let k = lowers_in q j in n k.0 k.1 k.2))) i

  -- OVER ANY LIST OF THE SIDES, each once
  module _ (l : List Dart) (once : Distinct l) (into : (a : Dart) → In a l → IsSide P p a) (onto : (a : Dart) → IsSide P p a → In a l) where
    abbrev to_east : Dart → Bool
    to_east a = same_dir a.d E

    abbrev to_west : Dart → Bool
    to_west a = same_dir a.d W

    east_into : (a : Dart) → In a (keep to_east l) → In a (map (bottom P) floors)
    east_into a i =
        let k = keep_in to_east l a i in
        let b = dart a.x a.y E in
        let e : a ≡ b = dart_path a b refl refl (same_dir_eq a.d E k.1) in
        let s : IsSide P p b = subst (IsSide P p) e (into a k.0) in
        let r = side_bottom F p o a.x a.y s in
        in-cast (e ∙ r.0) (in_map (bottom P) (in_floor (beside P b) (side_own F p o b s) r.1))

    east_onto : (a : Dart) → In a (map (bottom P) floors) → In a (keep to_east l)
    east_onto a i =
        let k = of_map (bottom P) floors i in
        let q = k.0 in
        let f = floor_in q k.1 in
        subst (λ a. In a (keep to_east l)) k.2 (in_keep to_east l (bottom P q) refl (onto (bottom P q) (bottom_side F p o q f.0 f.1)))

    easts : Rearranged (keep to_east l) (map (bottom P) floors)
    easts = record {
      first = keep_distinct to_east l once;
      second = map_distinct (bottom P) floors (keep_distinct (λ q. not (tied q)) isle (own_distinct F p o)) (λ q r i j e. sym (beside_bottom P q) ∙ ap (beside P) e ∙ beside_bottom P r);
      into = east_into;
      onto = east_onto;
    }

    sum_east : sum east l ≡ sum (λ q. suc (q / P.w)) floors
    sum_east = sum_keep east to_east l (λ a i e. east_none a.d a.y e) ∙ sum_same east easts ∙ sum_map east (bottom P) floors

    west_into : (a : Dart) → In a (keep to_west l) → In a (map (top P) roofs)
    west_into a i =
        let k = keep_in to_west l a i in
        let b = dart a.x a.y W in
        let e : a ≡ b = dart_path a b refl refl (same_dir_eq a.d W k.1) in
        let s : IsSide P p b = subst (IsSide P p) e (into a k.0) in
        let r = side_top F p o a.x a.y s in
        in-cast (e ∙ r.0) (in_map (top P) (in_roof (beside P b) (side_own F p o b s) r.1))

    west_onto : (a : Dart) → In a (map (top P) roofs) → In a (keep to_west l)
    west_onto a i =
        let k = of_map (top P) roofs i in
        let q = k.0 in
        let f = roof_in q k.1 in
        subst (λ a. In a (keep to_west l)) k.2 (in_keep to_west l (top P q) refl (onto (top P q) (top_side F p o q f.0 f.1)))

    wests : Rearranged (keep to_west l) (map (top P) roofs)
    wests = record {
      first = keep_distinct to_west l once;
      second = map_distinct (top P) roofs (keep_distinct (λ q. not (hung q)) isle (own_distinct F p o)) (λ q r i j e. sym (beside_top P q) ∙ ap (beside P) e ∙ beside_top P r);
      into = west_into;
      onto = west_onto;
    }

    sum_west : sum west l ≡ sum (λ q. q / P.w) roofs
    sum_west = sum_keep west to_west l (λ a i e. west_none a.d a.y e) ∙ sum_same west wests ∙ sum_map west (top P) roofs

    pub area : sum east l ≡ sum west l + length isle
    area = omega (arith, sum_east, sum_west, rims)
