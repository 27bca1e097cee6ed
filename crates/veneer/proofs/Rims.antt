-- The pixels of an island and the edges below and above them: a side east is the edge below a pixel of the island whose neighbour below is not of
-- it, and a side west the edge above one whose neighbour above is not.
use Prim.Native.Nat.{ℕ, suc, pred, ◌+◌, ◌*◌, ◌/◌, ◌%◌, ◌<◌}
use mathlib.Core.Path.{◌≡◌, refl, sym, ap, ap₂, ◌∙◌, subst}
use mathlib.Core.List.{Memᴰ as In}
use native.Mathlib.Omega.{arith}
use native.Mathlib.Nat.{div-add-mod', suc-mul, add-mod_right}
use lib.Dec.{eqb}
use lib.ListN.{get_or}
use Rattle.rules.specs.Lists.{upto, Distinct}
use Rattle.rules.specs.Picture.{Picture, OUTSIDE, Dart, dart, left_at, left, right}
use Rattle.rules.specs.declared.Dir.TheVariants.{E, W}
use Rattle.rules.specs.Face.{pixels, label_of, firsts, beside, beside_at}
use Rattle.rules.proofs.Ground.Lists.{keep_distinct, upto_distinct}
use Rattle.rules.proofs.Lattice.Frame.{Framed}
use Rattle.rules.proofs.Islands.Pixels.{below_row, on_map_lem}
use Rattle.rules.proofs.Islands.Joined.{Step, step, joined_same, here as stop}
use Rattle.rules.proofs.Islands.Least.{pixel_at}
use Rattle.rules.proofs.Islands.Firsts.{firsts_in, firsts_same}
use Rattle.rules.proofs.Lattice.Darts.{dart_path, crack_differs, differs_crack}
use Rattle.rules.proofs.Islands.Members.{pixels_of, own, in_own, IsSide}
use Rattle.rules.proofs.Islands.Beside.{beside_in, beside_label, at_column, at_line, at_step}

-- the edges below and above a pixel, with the pixel on the left
abbrev pub bottom : Picture → ℕ → Dart
bottom P q = dart (q % P.w) (suc (q / P.w)) E

abbrev pub top : Picture → ℕ → Dart
top P q = dart (suc (q % P.w)) (q / P.w) W

pub beside_bottom : (P : Picture) (q : ℕ) → beside P (bottom P q) ≡ q
unfolding beside_at
beside_bottom P q = div-add-mod' q P.w

pub beside_top : (P : Picture) (q : ℕ) → beside P (top P q) ≡ q
unfolding beside_at
beside_top P q = div-add-mod' q P.w

module _ {P : Picture} (F : Framed P) (p : ℕ) (o : label_of P p ≡ OUTSIDE → ⊥) where
  -- MEMBERS of the island
  pub own_distinct : Distinct (pixels_of P p)
  unfolding pixels
  own_distinct = keep_distinct (λ q. eqb (get_or (firsts P) q 0) p) (upto (P.w * P.h) 0) (upto_distinct (P.w * P.h) 0)

  pub own_label : (q : ℕ) → In q (pixels_of P p) → label_of P q ≡ label_of P p
  own_label q i = let k = own P p q i in joined_same (firsts_in P F q k.0) ∙ ap (label_of P) k.1

  own_step : (q r : ℕ) → In q (pixels_of P p) → Step P q r → In r (pixels_of P p)
  own_step q r i s = let k = own P p q i in in_own P p r s.end (sym (firsts_same P F q r k.0 (step s stop)) ∙ k.1)

  pub side_own : (a : Dart) → IsSide P p a → In (beside P a) (pixels_of P p)
  side_own a s = in_own P p (beside P a) (beside_in F a s.inside) s.isle

  -- one row down
  below_label : (q : ℕ) → q < P.w * P.h → label_of P (q + P.w) ≡ P.nw (suc (q % P.w)) (suc (suc (q / P.w)))
  unfolding label_of
  below_label q h = ap₂ (λ x y. P.nw (suc x) (suc y)) (add-mod_right q P.w) (below_row P.w P.h q h)

  -- EAST
  pub bottom_side : (q : ℕ) → In q (pixels_of P p) → (In (q + P.w) (pixels_of P p) → ⊥) → IsSide P p (bottom P q)
  unfolding left right left_at label_of
  bottom_side q i n =
      let x = q % P.w in
      let y = q / P.w in
      let l : P.nw (suc x) (suc y) ≡ label_of P p = own_label q i in
      let z : P.nw (suc x) (suc y) ≡ OUTSIDE → ⊥ = λ e. o (sym l ∙ e) in
      let c : pixel_at P (suc x) (suc (suc y)) ≡ q + P.w = omega (arith, suc-mul y P.w, div-add-mod' q P.w) in
      let d : pixel_at P (suc x) (suc y) ≡ q = div-add-mod' q P.w in
      record {
        cracked = differs_crack P (bottom P q) (λ e. n (own_step q (q + P.w) i
            (subst (Step P q) c (subst (λ r. Step P r (pixel_at P (suc x) (suc (suc y)))) d
            (at_step F (suc x) (suc y) (suc x) (suc (suc y)) z (sym e) (omega arith) (omega arith) (omega arith) (omega arith))))));
        inside = z;
        isle = ap (λ r. get_or (firsts P) r 0) (beside_bottom P q) ∙ (own P p q i).1;
      }

  pub side_bottom : (x y : ℕ) → IsSide P p (dart x y E) → (dart x y E ≡ bottom P (beside P (dart x y E))) × (In (beside P (dart x y E) + P.w) (pixels_of P p) → ⊥)
  unfolding left right left_at beside_at
  side_bottom x y s =
      let q = beside P (dart x y E) in
      let i = side_own (dart x y E) s in
      let m = on_map_lem P F (suc x) y s.inside in
      let ex : q % P.w ≡ x = at_column F (suc x) y s.inside in
      let ey : q / P.w ≡ pred y = at_line F (suc x) y s.inside in
      let sy : suc (q / P.w) ≡ y = omega arith in (
        dart_path (dart x y E) (bottom P q) (sym ex) (sym sy) refl,
        λ j. crack_differs P (dart x y E) s.cracked
            (sym (beside_label F (dart x y E) s.inside) ∙ own_label q i ∙ sym (own_label (q + P.w) j) ∙ below_label q (own P p q i).0 ∙ ap₂ (λ a b. P.nw (suc a) (suc b)) ex sy),
      )

  -- WEST
  pub top_side : (q : ℕ) → In q (pixels_of P p) → ((r : ℕ) → In r (pixels_of P p) → r + P.w ≡ q → ⊥) → IsSide P p (top P q)
  unfolding left right left_at label_of
  top_side q i n =
      let x = q % P.w in
      let y = q / P.w in
      let l : P.nw (suc x) (suc y) ≡ label_of P p = own_label q i in
      let z : P.nw (suc x) (suc y) ≡ OUTSIDE → ⊥ = λ e. o (sym l ∙ e) in
      let d : pixel_at P (suc x) (suc y) ≡ q = div-add-mod' q P.w in
      record {
        cracked = differs_crack P (top P q) (λ e.
            let m = on_map_lem P F (suc x) y (λ u. z (e ∙ u)) in
            let g : suc (pred y) ≡ y = omega arith in
            let v : y * P.w ≡ pred y * P.w + P.w = ap (λ k. k * P.w) (sym g) ∙ suc-mul (pred y) P.w in
            let c : pixel_at P (suc x) y + P.w ≡ q = omega arith in
            n (pixel_at P (suc x) y) (own_step q (pixel_at P (suc x) y) i
            (subst (λ r. Step P r (pixel_at P (suc x) y)) d
            (at_step F (suc x) (suc y) (suc x) y z (sym e) (omega arith) (omega arith) (omega arith) (omega arith)))) c);
        inside = z;
        isle = ap (λ r. get_or (firsts P) r 0) (beside_top P q) ∙ (own P p q i).1;
      }

  pub side_top : (x y : ℕ) → IsSide P p (dart x y W) → (dart x y W ≡ top P (beside P (dart x y W))) × ((r : ℕ) → In r (pixels_of P p) → r + P.w ≡ beside P (dart x y W) → ⊥)
  unfolding left right left_at beside_at label_of
  side_top x y s =
      let q = beside P (dart x y W) in
      let i = side_own (dart x y W) s in
      let m = on_map_lem P F x (suc y) s.inside in
      let ex : q % P.w ≡ pred x = at_column F x (suc y) s.inside in
      let ey : q / P.w ≡ y = at_line F x (suc y) s.inside in
      let sx : suc (q % P.w) ≡ x = omega arith in (
        dart_path (dart x y W) (top P q) (sym sx) (sym ey) refl,
        λ r j e. crack_differs P (dart x y W) s.cracked
            (sym (beside_label F (dart x y W) s.inside) ∙ own_label q i ∙ sym (own_label r j)
            ∙ ap₂ P.nw (ap suc (sym (add-mod_right r P.w) ∙ ap (λ k. k % P.w) e) ∙ sx) (sym (below_row P.w P.h r (own P p r j).0) ∙ ap (λ k. k / P.w) e ∙ ey)),
      )
