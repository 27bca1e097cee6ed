-- The first pixels of the painted islands, by label and then by number, and the crack above each.
use Prim.Native.Nat.{ℕ, suc, pred, ◌+◌, ◌*◌, ◌/◌, ◌%◌, ◌<◌, ◌≤◌}
use mathlib.Core.Bool.{Bool, true, ◌&&◌}
use mathlib.Core.Path.{◌≡◌, refl, sym, ◌∙◌}
use mathlib.Core.List.{List, [], Memᴰ as In}
use native.Mathlib.Omega.{arith}
use native.Mathlib.Nat.{div-add-mod', suc-mul}
use lib.Dec.{ltb, eqb}
use lib.ListN.{get_or}
use borrow.Author.Tests.{ltb-true, lt-ltb, eqb-true, eq-eqb}
use Rattle.rules.specs.Lists.{upto, Distinct}
use Rattle.rules.specs.Picture.{Picture, OUTSIDE, Dart, dart, left_at, left, right, crack}
use Rattle.rules.specs.declared.Dir.TheVariants.{W}
use Rattle.rules.specs.Face.{pixels, label_of, firsts, islands, sorted, beside, beside_at}
use Rattle.rules.proofs.Ground.Lists.{keep_in, in_keep, keep_distinct, upto_in, in_upto, upto_distinct}
use Rattle.rules.proofs.Ground.Pigeonhole.{Rearranged}
use Rattle.rules.proofs.Ground.Booleans.{both, and_left, and_right}
use Rattle.rules.proofs.Lattice.Frame.{Framed}
use Rattle.rules.proofs.Islands.Pixels.{width_pos, on_map_lem}
use Rattle.rules.proofs.Islands.Joined.{here, step, joined_in, joined_same}
use Rattle.rules.proofs.Islands.Least.{pixel_at}
use Rattle.rules.proofs.Islands.Firsts.{firsts_in, firsts_least, firsts_same}
use Rattle.rules.proofs.Lattice.Darts.{differs_crack}
use Rattle.rules.proofs.Islands.Beside.{at_step}
use Rattle.rules.proofs.Ground.Order.{Ordered, Less, Before, before_not, ordered_keep, ordered_distinct, upto_ordered, sorted_in, in_sorted, sorted_ordered}

pub record First (P : Picture) (paints p : ℕ) : Type 0 where
  pub on : p < P.w * P.h
  pub painted : label_of P p < paints
  pub least : get_or (firsts P) p 0 ≡ p

abbrev pub first_pixels : Picture → ℕ → List ℕ
first_pixels P paints = sorted (label_of P) [] (islands P paints)

module _ (P : Picture) (paints : ℕ) where
  is_first : ℕ → Bool
  is_first p = ltb (label_of P p) paints && eqb (get_or (firsts P) p 0) p

  pub first_in_lem : (p : ℕ) → In p (first_pixels P paints) → First P paints p
  unfolding islands pixels is_first
  first_in_lem p i =
      let k = keep_in is_first (upto (P.w * P.h) 0) p (sorted_in (label_of P) (islands P paints) p i) in
      let u = upto_in (P.w * P.h) 0 p k.0 in
      record {
        on = omega arith;
        painted = ltb-true (label_of P p) paints (and_left (ltb (label_of P p) paints) (eqb (get_or (firsts P) p 0) p) k.1);
        least = eqb-true (get_or (firsts P) p 0) p (and_right (ltb (label_of P p) paints) (eqb (get_or (firsts P) p 0) p) k.1);
      }

  pub in_firsts : (p : ℕ) → First P paints p → In p (first_pixels P paints)
  unfolding islands pixels is_first
  in_firsts p f =
      in_sorted (label_of P) (islands P paints) p
      (in_keep is_first (upto (P.w * P.h) 0) p
      (both (ltb (label_of P p) paints) (eqb (get_or (firsts P) p 0) p) (lt-ltb (label_of P p) paints f.painted) (eq-eqb (get_or (firsts P) p 0) p f.least))
      (in_upto (P.w * P.h) 0 p (omega arith) (omega (arith, f.on))))

  pub firsts_ordered : Ordered (Before (label_of P)) (first_pixels P paints)
  unfolding islands pixels is_first
  firsts_ordered = sorted_ordered (label_of P) (islands P paints) (ordered_keep Less is_first (upto (P.w * P.h) 0) (upto_ordered (P.w * P.h) 0))

  pub firsts_distinct : Distinct (first_pixels P paints)
  firsts_distinct = ordered_distinct (Before (label_of P)) (before_not (label_of P)) (first_pixels P paints) firsts_ordered

  -- the sort leaves none out
  pub firsts_all : Rearranged (first_pixels P paints) (islands P paints)
  unfolding islands pixels is_first
  firsts_all = record {
    first = firsts_distinct;
    second = keep_distinct is_first (upto (P.w * P.h) 0) (upto_distinct (P.w * P.h) 0);
    into = λ q i. sorted_in (label_of P) (islands P paints) q i;
    onto = λ q i. in_sorted (label_of P) (islands P paints) q i;
  }

module _ {P : Picture} (F : Framed P) (paints : ℕ) where
  -- the first pixel of a painted pixel's island
  pub first_of_lem : (q : ℕ) → q < P.w * P.h → label_of P q < paints → First P paints (get_or (firsts P) q 0)
  first_of_lem q h l =
      let j = firsts_in P F q h in
      let e = joined_same j in
      record { on = joined_in h j; painted = omega arith; least = sym (firsts_same P F q _ h j) }

  -- the pixel above carries another label, so the edge between is a crack
  module _ (b : paints ≤ OUTSIDE) (p : ℕ) (f : First P paints p) where
    abbrev pub above : Dart
    above = dart (suc (p % P.w)) (p / P.w) W

    pub above_left : left P above ≡ label_of P p
    unfolding left left_at label_of
    above_left = refl

    pub above_beside : beside P above ≡ p
    unfolding beside_at
    above_beside = div-add-mod' p P.w

    above_other : P.nw (suc (p % P.w)) (p / P.w) ≡ P.nw (suc (p % P.w)) (suc (p / P.w)) → ⊥
    unfolding label_of
    above_other e =
        let x = p % P.w in
        let y = p / P.w in
        let l = f.painted in
        let o : P.nw (suc x) (suc y) ≡ OUTSIDE → ⊥ = λ z. omega arith in
        let m = on_map_lem P F (suc x) y (λ z. o (sym e ∙ z)) in
        let s = at_step F (suc x) (suc y) (suc x) y o e (omega arith) (omega arith) (omega arith) (omega arith) in
        let i : pixel_at P (suc x) (suc y) ≡ p = div-add-mod' p P.w in
        let k : get_or (firsts P) p 0 ≤ pixel_at P (suc x) y = firsts_least P F p f.on (pixel_at P (suc x) y) (step (rw i at s) here) in
        let c : suc (pred y) * P.w ≡ pred y * P.w + P.w = suc-mul (pred y) P.w in
        let g : suc (pred y) ≡ y = omega arith in
        let v : y * P.w ≡ pred y * P.w + P.w = rw g at c in
        omega (arith, f.least, width_pos P.w P.h p f.on, i, v)

    pub above_crack : crack P above ≡ true
    unfolding left right left_at
    above_crack = differs_crack P above (λ e. above_other (sym e))
