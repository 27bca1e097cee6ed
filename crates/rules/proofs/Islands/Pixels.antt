-- Pixels of a picture by column and row, and their labels.
use mathlib.Core.Path.{◌≡◌, sym, ◌∙◌, ap, ap₂}
use mathlib.Core.Bool.{Bool, cond, ◌&&◌}
use mathlib.Core.List.{List}
use mathlib.Core.Logic.{◌⊎◌, inl, inr}
use Prim.Native.Nat.{ℕ, zero, suc, ◌+◌, ◌-◌, ◌*◌, ◌/◌, ◌%◌, ◌≤◌, ◌<◌}
use native.Mathlib.Nat.{mod-lt, mod-eq_of_lt, div-eq_of_lt, div-lt_iff_lt-mul, div-add-mod', mul-add-mod_self_right, mul-add-div_right, add-div_right, mul_comm, suc-mul, zero-mul, mul-le-mul_right, not-suc-le-zero}
use native.Mathlib.Numerals.{add-one}
use native.Mathlib.Omega.{arith}
use native.Mathlib.Decide.{ℕ_discrete}
use borrow.Author.Tests.{lt-ltb}
use lib.ListN.{length, get_or}
use Rattle.rules.specs.Picture.{Picture, picture, seen, label, northwest, OUTSIDE}
use Rattle.rules.specs.Face.{label_of}
use Rattle.rules.proofs.Lattice.Frame.{Framed}
use Rattle.rules.proofs.Ground.Lists.{at_any}

-- the pixel at a column and a row
module _ (w h x y : ℕ) (hx : x < w) (hy : y < h) where
  pub pixel_mod : (y * w + x) % w ≡ x
  pixel_mod = mul-add-mod_self_right y w x ∙ mod-eq_of_lt hx

  pub pixel_div : (y * w + x) / w ≡ y
  pixel_div = let p : 0 < w = omega arith in rw (mul-add-div_right p y x, div-eq_of_lt hx) (omega arith)

  pub pixel_in_lem : y * w + x < w * h
  pixel_in_lem = let m : suc y * w ≤ h * w = mul-le-mul_right w hy in omega (arith, m, suc-mul y w, mul_comm w h)

-- the column and the row of a pixel
module _ (w h p : ℕ) (hp : p < w * h) where
  pub width_pos : 0 < w
  width_pos = let k : w ≡ 0 → ⊥ = λ e. not-suc-le-zero (rw (e, zero-mul) at hp) in omega arith

  pub column_in : p % w < w
  column_in = mod-lt p width_pos

  pub row_in : p / w < h
  row_in = (div-lt_iff_lt-mul width_pos).1 (rw (mul_comm h w) hp)

  -- the pixels beside it
  pub left_column : 0 < p % w → suc ((p - 1) % w) ≡ p % w
  left_column k =
      let e : p - 1 ≡ p / w * w + (p % w - 1) = omega (arith, div-add-mod' p w) in
      rw (e, pixel_mod w h (p % w - 1) (p / w) (omega (arith, column_in)) row_in) (omega arith)

  pub left_row : 0 < p % w → (p - 1) / w ≡ p / w
  left_row k =
      let e : p - 1 ≡ p / w * w + (p % w - 1) = omega (arith, div-add-mod' p w) in
      rw e (pixel_div w h (p % w - 1) (p / w) (omega (arith, column_in)) row_in)

  module _ (k : suc (p % w) < w) where
    right_is : p + 1 ≡ p / w * w + suc (p % w)
    right_is = omega (arith, div-add-mod' p w)

    pub right_column : (p + 1) % w ≡ suc (p % w)
    right_column = rw right_is (pixel_mod w h (suc (p % w)) (p / w) k row_in)

    pub right_row : (p + 1) / w ≡ p / w
    right_row = rw right_is (pixel_div w h (suc (p % w)) (p / w) k row_in)

    pub right_in : p + 1 < w * h
    right_in = rw right_is (pixel_in_lem w h (suc (p % w)) (p / w) k row_in)

  -- and below it
  pub below_row : (p + w) / w ≡ suc (p / w)
  below_row = add-div_right p width_pos ∙ add-one (p / w)

-- two pixels at one place are one
pub same_pixel : (w p q : ℕ) → p % w ≡ q % w → p / w ≡ q / w → p ≡ q
same_pixel w p q e f = sym (div-add-mod' p w) ∙ ap₂ (λ (a b : ℕ). a * w + b) f e ∙ div-add-mod' q w

-- one of three in a row
pub three : (x X : ℕ) → x ≤ X → X ≤ suc (suc x) → (X ≡ x) ⊎ ((X ≡ suc x) ⊎ (X ≡ suc (suc x)))
three x X h k = go (ℕ_discrete X x) (ℕ_discrete X (suc x))
  where
    go : Dec (X ≡ x) → Dec (X ≡ suc x) → (X ≡ x) ⊎ ((X ≡ suc x) ⊎ (X ≡ suc (suc x)))
    go (yes e) d = inl e
    go (no e) (yes f) = inr (inl f)
    go (no e) (no f) = inr (inr (omega arith))

-- a label that is not OUTSIDE lies on the map
pub on_map_lem : (P : Picture) → Framed P → (x y : ℕ) → (P.nw x y ≡ OUTSIDE → ⊥) → (0 < x) × (0 < y) × (x ≤ P.w) × (y ≤ P.h)
on_map_lem P F zero y o = absurd (o (F.west y))
on_map_lem P F (suc x) zero o = absurd (o (F.north (suc x)))
on_map_lem P F (suc x) (suc y) o =
    let i : P.w < suc x → ⊥ = λ k. o (F.east (suc x) (suc y) k) in
    let j : P.h < suc y → ⊥ = λ k. o (F.south (suc x) (suc y) k) in
    (omega arith, omega arith, omega arith, omega arith)

-- the labels of a map's picture are the list's, as they are read
module _ (w h b : ℕ) (ls : List ℕ) (size : length ls ≡ w * h) where
  pub label_is : (x y : ℕ) → x < w → y < h → label w h b ls x y ≡ seen b (get_or ls (y * w + x) 0)
  unfolding label
  label_is x y hx hy =
      let i : y * w + x < length ls = rw size (pixel_in_lem w h x y hx hy) in
      ap₂ (λ (s t : Bool). cond (s && t) (seen b (get_or ls (y * w + x) OUTSIDE)) OUTSIDE) (lt-ltb x w hx) (lt-ltb y h hy) ∙ ap (seen b) (at_any ls (y * w + x) OUTSIDE 0 i)

  pub label_of_is : (p : ℕ) → p < w * h → label_of (picture w h b ls) p ≡ seen b (get_or ls p 0)
  unfolding label_of picture northwest
  label_of_is p hp = label_is (p % w) (p / w) (column_in w h p hp) (row_in w h p hp) ∙ ap (λ (i : ℕ). seen b (get_or ls i 0)) (div-add-mod' p w)
