-- One round of the definition: the least of a pixel's number and those of its neighbours with its label.
use mathlib.Core.Path.{◌≡◌, refl, sym, ◌∙◌, ap, ap₂}
use mathlib.Core.Bool.{Bool, true, false}
use mathlib.Core.List.{List}
use mathlib.Core.Logic.{⊎_elim}
use Prim.Native.Nat.{ℕ, suc, pred, ◌+◌, ◌*◌, ◌/◌, ◌%◌, ◌≤◌, ◌<◌, min}
use native.Mathlib.Nat.{le_refl, le_trans, min-le_left, min-le_right, min-eq_left, min-eq_right, div-add-mod'}
use native.Mathlib.Omega.{arith}
use native.Mathlib.Decide.{dec_le}
use borrow.Author.Tests.{eqb-true, eq-eqb, ne_eqb}
use lib.Dec.{eqb}
use lib.ListN.{length, get_or}
use Rattle.rules.specs.Picture.{Picture, OUTSIDE}
use Rattle.rules.specs.Face.{label_of, lesser, lesser3, least}
use Rattle.rules.proofs.Ground.Lists.{at_any}
use Rattle.rules.proofs.Lattice.Frame.{Framed}
use Rattle.rules.proofs.Islands.Pixels.{pixel_mod, pixel_div, pixel_in_lem, on_map_lem, three}
use Rattle.rules.proofs.Islands.Joined.{Step, stay}

min_keeps : (Q : ℕ → Type 0) (a b : ℕ) → Q a → Q b → Q (min a b)
min_keeps Q a b h k = go (dec_le a b)
  where
    go : Dec (a ≤ b) → Q (min a b)
    go (yes l) = rw (min-eq_left l) h
    go (no l) = let m : b ≤ a = omega arith in rw (min-eq_right m) k

-- the pixel north-west of a corner
abbrev pub pixel_at : Picture → ℕ → ℕ → ℕ
pixel_at P x y = pred y * P.w + pred x

module _ (P : Picture) (ids : List ℕ) (l : ℕ) where
  -- one neighbour
  lesser_le : (a x y : ℕ) → lesser P ids l a x y ≤ a
  unfolding lesser
  lesser_le a x y = go (eqb (P.nw x y) l)
    where
      go : (b : Bool) → elim b [ true ↦ min a (get_or ids (pixel_at P x y) a) | false ↦ a ] ≤ a
      go true = min-le_left a _
      go false = le_refl a

  lesser_hit : (a x y : ℕ) → P.nw x y ≡ l → pixel_at P x y < length ids → lesser P ids l a x y ≤ get_or ids (pixel_at P x y) 0
  unfolding lesser
  lesser_hit a x y e h = rw (eq-eqb (P.nw x y) l e, lesser, at_any ids (pixel_at P x y) a 0 h) (min-le_right a _)

  lesser_keeps : (Q : ℕ → Type 0) (a x y : ℕ) → Q a → (P.nw x y ≡ l → Q (get_or ids (pixel_at P x y) a)) → Q (lesser P ids l a x y)
  unfolding lesser
  lesser_keeps Q a x y h k = go (eqb (P.nw x y) l) refl
    where
      go : (b : Bool) → eqb (P.nw x y) l ≡ b → Q (elim b [ true ↦ min a (get_or ids (pixel_at P x y) a) | false ↦ a ])
      go true e = min_keeps Q a _ h (k (eqb-true (P.nw x y) l e))
      go false e = h

  -- three in a row
  lesser3_le : (a x y : ℕ) → lesser3 P ids l a x y ≤ a
  unfolding lesser3
  lesser3_le a x y = le_trans (lesser_le _ _ _) (le_trans (lesser_le _ _ _) (lesser_le _ _ _))

  lesser3_hit : (a x X y : ℕ) → x ≤ X → X ≤ suc (suc x) → P.nw X y ≡ l → pixel_at P X y < length ids → lesser3 P ids l a x y ≤ get_or ids (pixel_at P X y) 0
  unfolding lesser3
  lesser3_hit a x X y h k e i =
      ⊎_elim
      (λ z. rw z (le_trans (lesser_le _ _ _) (le_trans (lesser_le _ _ _) (lesser_hit a x y (rw z at e) (rw z at i)))))
      (⊎_elim (λ z. rw z (le_trans (lesser_le _ _ _) (lesser_hit _ (suc x) y (rw z at e) (rw z at i)))) (λ z. rw z (lesser_hit _ (suc (suc x)) y (rw z at e) (rw z at i))))
      (three x X h k)

  lesser3_keeps :
      (Q : ℕ → Type 0) (a x y : ℕ)
      → Q a
      → ((X d : ℕ) → x ≤ X → X ≤ suc (suc x) → P.nw X y ≡ l → Q (get_or ids (pixel_at P X y) d))
      → Q (lesser3 P ids l a x y)
  unfolding lesser3
  lesser3_keeps Q a x y h k =
      lesser_keeps Q _ (suc (suc x)) y
      (lesser_keeps Q _ (suc x) y (lesser_keeps Q a x y h (λ e. k x a (omega arith) (omega arith) e)) (λ e. k (suc x) _ (omega arith) (omega arith) e))
      (λ e. k (suc (suc x)) _ (omega arith) (omega arith) e)

  -- three rows
  abbrev nine : ℕ → ℕ → ℕ → ℕ
  nine a x y = lesser3 P ids l (lesser3 P ids l (lesser3 P ids l a x y) x (suc y)) x (suc (suc y))

  nine_hit :
      (a x X y Y : ℕ) → x ≤ X → X ≤ suc (suc x) → y ≤ Y → Y ≤ suc (suc y) → P.nw X Y ≡ l → pixel_at P X Y < length ids → nine a x y ≤ get_or ids (pixel_at P X Y) 0
  nine_hit a x X y Y h k h' k' e i =
      ⊎_elim
      (λ z. rw z (le_trans (lesser3_le _ _ _) (le_trans (lesser3_le _ _ _) (lesser3_hit a x X y h k (rw z at e) (rw z at i)))))
      (⊎_elim (λ z. rw z (le_trans (lesser3_le _ _ _) (lesser3_hit _ x X (suc y) h k (rw z at e) (rw z at i)))) (λ z. rw z (lesser3_hit _ x X (suc (suc y)) h k (rw z at e) (rw z at i))))
      (three y Y h' k')

  nine_keeps :
      (Q : ℕ → Type 0) (a x y : ℕ)
      → Q a
      → ((X Y d : ℕ) → x ≤ X → X ≤ suc (suc x) → y ≤ Y → Y ≤ suc (suc y) → P.nw X Y ≡ l → Q (get_or ids (pixel_at P X Y) d))
      → Q (nine a x y)
  nine_keeps Q a x y h k =
      lesser3_keeps Q _ x (suc (suc y))
      (lesser3_keeps Q _ x (suc y)
      (lesser3_keeps Q a x y h (λ X d i j e. k X y d i j (omega arith) (omega arith) e))
      (λ X d i j e. k X (suc y) d i j (omega arith) (omega arith) e))
      (λ X d i j e. k X (suc (suc y)) d i j (omega arith) (omega arith) e)

module _ (P : Picture) (F : Framed P) where
  -- the pixel north-west of a corner of p's is a neighbour, where it has the label
  pub neighbour :
      (p X Y : ℕ)
      → p < P.w * P.h
      → (label_of P p ≡ OUTSIDE → ⊥)
      → p % P.w ≤ X
      → X ≤ suc (suc (p % P.w))
      → p / P.w ≤ Y
      → Y ≤ suc (suc (p / P.w))
      → P.nw X Y ≡ label_of P p
      → Step P p (pixel_at P X Y)
  unfolding label_of
  neighbour p X Y h o x₁ x₂ y₁ y₂ e =
      let b = on_map_lem P F X Y (λ z. o (sym e ∙ z)) in
      let hx : pred X < P.w = omega arith in
      let hy : pred Y < P.h = omega arith in
      let m : pixel_at P X Y % P.w ≡ pred X = pixel_mod P.w P.h (pred X) (pred Y) hx hy in
      let d : pixel_at P X Y / P.w ≡ pred Y = pixel_div P.w P.h (pred X) (pred Y) hx hy in
      let sx : suc (pred X) ≡ X = omega arith in
      let sy : suc (pred Y) ≡ Y = omega arith in
      record {
        start = h;
        end = pixel_in_lem P.w P.h (pred X) (pred Y) hx hy;
        same = sym (ap₂ P.nw (ap suc m ∙ sx) (ap suc d ∙ sy) ∙ e);
        inside = o;
        right = omega arith;
        left = omega arith;
        down = omega arith;
        up = omega arith;
      }

  module _ (ids : List ℕ) (size : length ids ≡ P.w * P.h) where
    pub least_out : (p : ℕ) → label_of P p ≡ OUTSIDE → least P ids p ≡ p
    unfolding least
    least_out p e = rw (eq-eqb (label_of P p) OUTSIDE e, least)

    least_in : (p : ℕ) → (label_of P p ≡ OUTSIDE → ⊥) → least P ids p ≡ nine P ids (label_of P p) (get_or ids p p) (p % P.w) (p / P.w)
    unfolding least
    least_in p o = rw (ne_eqb (label_of P p) OUTSIDE o, least)

    -- no more than the number of a neighbour
    pub least_le : (p q : ℕ) → Step P p q → least P ids p ≤ get_or ids q 0
    least_le p q s =
        let X = suc (q % P.w) in
        let Y = suc (q / P.w) in
        let e : pixel_at P X Y ≡ q = div-add-mod' q P.w in
        let r : P.nw X Y ≡ label_of P p = unfold label_of in (sym s.same) in
        let i : pixel_at P X Y < length ids = rw (e, size) s.end in
        let k : nine P ids (label_of P p) (get_or ids p p) (p % P.w) (p / P.w) ≤ get_or ids (pixel_at P X Y) 0
        = nine_hit P ids (label_of P p) (get_or ids p p) (p % P.w) X (p / P.w) Y s.left (omega arith) s.up (omega arith) r i in
        rw (least_in p s.inside) (rw e at k)

    -- and one of these
    pub least_keeps :
        (Q : ℕ → Type 0) (p : ℕ)
        → p < P.w * P.h
        → (label_of P p ≡ OUTSIDE → ⊥)
        → ((q : ℕ) → Step P p q → Q (get_or ids q 0))
        → Q (least P ids p)
    least_keeps Q p h o k =
        let hp : p < length ids = omega arith in
        rw (least_in p o)
        (nine_keeps P ids (label_of P p) Q (get_or ids p p) (p % P.w) (p / P.w)
        (rw (at_any ids p p 0 hp) (k p (stay p h o)))
        (λ X Y d x₁ x₂ y₁ y₂ e.
        let s : Step P p (pixel_at P X Y) = neighbour p X Y h o x₁ x₂ y₁ y₂ e in
        let i : pixel_at P X Y < length ids = rw size s.end in
        rw (at_any ids (pixel_at P X Y) d 0 i) (k (pixel_at P X Y) s)))
